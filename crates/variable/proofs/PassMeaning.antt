-- The pass up the value rows, on an image without fault: it reaches just the values that an operation uses, and marks just the
-- variables in them. Assumes nothing.
use mathlib.Core.Path.{◌≡◌, refl, sym, ap, subst, ◌∙◌}
use mathlib.Core.Logic.{◌⊎◌, inl, inr}
use mathlib.Core.Bool.{cond}
use mathlib.Core.List.{List}
use Prim.Native.Nat.{ℕ, zero, suc, ◌≤◌, ◌<◌, max}
use native.Mathlib.Nat.{not-suc-le-zero}
use native.Mathlib.Decide.{ℕ_discrete}
use native.Mathlib.Omega.{arith}
use lib.Dec.{leb, ltb}
use lib.ListN.{length, get_or, set, replicate, length-replicate, length-set, get_or-replicate, get_or-eq_default}
use lib.Seq.{get_or-set_same, get_or-set_other}
use borrow.Author.Tests.{lt-ltb, le-ltb, le-leb, lt-leb, eq-eqb, ne_eqb}
use Rattle.lists.proofs.Parts.{le_or_lt}
use Rattle.tables.specs.declared.Range.{Range}
use Rattle.tables.specs.Layout.{operations, fragments, arguments, values, variables}
use Rattle.tables.specs.Image.{count_at}
use Rattle.tables.specs.Columns.{variable, list, value_kind, value_atom, value_members}
use Rattle.tables.specs.Good.{Good}
use Rattle.reach.specs.Turns.{turns}
use Rattle.reach.specs.Reach.{RowOf}
use Rattle.variable.specs.Definitions.{find_name}
use Rattle.variable.specs.Uses.{Uses, Pass, furthest, reach_range, none_used, reach_arguments, mark_variable, use_value, pass_row, pass_begins, mark_variables, uses_of}
use Rattle.variable.specs.Rules.{UsesArgument, of_operation, of_field, of_selection, of_definition, Inside, whole, member, UsesValue}
use Rattle.reach.proofs.ReachMeaning.{stands_row}
use Rattle.variable.proofs.Covers.{Covers, covers_of, of_covers, covers_low, end_of, furthest_same, Adds, adds_range, range_elsewhere}
use Rattle.variable.proofs.UseMeaning.{few_values, arguments_valued, arguments_add, none_long, covered_used, used_covered}

module _ (image : List ℕ) (good : Good image) (i : ℕ) (known : i < count_at image operations) (defined : Range) where
  -- ---- used rows are rows

  pub argument_known : (a : ℕ) → UsesArgument image i a → a < count_at image arguments
  argument_known a (of_operation h) = let ends = (good.operation i known).directives_within.ends in let below = h.below in omega arith
  argument_known a (of_field {s} {r} reached stands h) =
      let ends = (good.selection r (stands_row image good r s stands)).arguments_within.ends in
      let below = h.below in
      omega arith
  argument_known a (of_selection {s} {r} reached stands h) =
      let ends = (good.selection r (stands_row image good r s stands)).directives_within.ends in
      let below = h.below in
      omega arith
  argument_known a (of_definition {s} {f} reached spreads h) =
      let row = good.selection spreads.row (stands_row image good spreads.row s spreads.stands) in
      let target : f < count_at image fragments = subst (λ (x : ℕ). x < count_at image fragments) spreads.target (row.spread_target spreads.kind) in
      let ends = (good.fragment f target).directives_within.ends in
      let below = h.below in
      omega arith

  inside_known : {a v : ℕ} → a < count_at image values → Inside image i a v → v < count_at image values
  inside_known h whole = h
  inside_known h (member {v} {m} inner kind row) =
      let ends = ((good.value v (inside_known h inner)).members kind).within.ends in
      let below = row.below in
      omega arith

  pub value_known : (v : ℕ) → UsesValue image i v → v < count_at image values
  value_known v u = let valued = arguments_valued image good in let a = argument_known u.argument u.used in inside_known (omega arith) u.inside

  -- ---- under way: the rows below r are passed

  -- a variable in a used value has this place
  pub record UsedAt (k : ℕ) : Type 0 where
    pub value : ℕ
    pub used : UsesValue image i value
    pub kind : value_kind image value ≡ variable
    pub place : find_name image defined (value_atom image value) ≡ k

  pub record Passed (r : ℕ) (u : Uses) : Type 0 where
    pub long : length u.ends ≡ count_at image values
    pub marks_long : length u.marks ≡ count_at image variables
    pub sound : (x : ℕ) → Covers u.ends x → UsesValue image i x
    pub begins : (a : ℕ) → UsesArgument image i a → Covers u.ends a
    pub members : (v m : ℕ) → v < r → Covers u.ends v → list ≤ value_kind image v → RowOf (value_members image v) m → Covers u.ends m
    pub marked : (k : ℕ) → (get_or u.marks k 0 ≡ 0 → ⊥) → UsedAt k
    pub marks : (v : ℕ) → v < r → Covers u.ends v → value_kind image v ≡ variable → find_name image defined (value_atom image v) < count_at image variables → get_or u.marks (find_name image defined (value_atom image v)) 0 ≡ 1

  -- a row that is not covered
  passed_by : (r : ℕ) (u : Uses) → Passed r u → (Covers u.ends r → ⊥) → Passed (suc r) u
  passed_by r u p n =
      record {
        long = p.long;
        marks_long = p.marks_long;
        sound = p.sound;
        begins = p.begins;
        members = λ v m l c kind row. elim (ℕ_discrete v r) [
          | yes e ↦ absurd (n (subst (Covers u.ends) e c))
          | no q ↦ p.members v m (omega arith) c kind row
        ];
        marked = p.marked;
        marks = λ v l c kind less. elim (ℕ_discrete v r) [
          | yes e ↦ absurd (n (subst (Covers u.ends) e c))
          | no q ↦ p.marks v (omega arith) c kind less
        ];
      }

  -- a covered row that is neither a variable nor a list or an object
  passed_plain : (r : ℕ) (u : Uses) → Passed r u → (value_kind image r ≡ variable → ⊥) → value_kind image r < list → Passed (suc r) u
  passed_plain r u p n flat =
      record {
        long = p.long;
        marks_long = p.marks_long;
        sound = p.sound;
        begins = p.begins;
        members = λ v m l c kind row. elim (ℕ_discrete v r) [
          | yes e ↦ let same : value_kind image v ≡ value_kind image r = ap (value_kind image) e in absurd (omega arith)
          | no q ↦ p.members v m (omega arith) c kind row
        ];
        marked = p.marked;
        marks = λ v l c kind less. elim (ℕ_discrete v r) [
          | yes e ↦ absurd (n (ap (value_kind image) (sym e) ∙ kind))
          | no q ↦ p.marks v (omega arith) c kind less
        ];
      }

  -- a covered variable
  passed_variable : (r : ℕ) (u : Uses) → Passed r u → Covers u.ends r → value_kind image r ≡ variable → Passed (suc r) (mark_variable image (find_name image defined (value_atom image r)) u)
  unfolding mark_variable
  passed_variable r u p covered kind_is =
      record {
        long = p.long;
        marks_long = length-set u.marks _ 1 ∙ p.marks_long;
        sound = p.sound;
        begins = p.begins;
        members = λ v m l c kind row. elim (ℕ_discrete v r) [
          | yes e ↦ let same : value_kind image v ≡ value_kind image r = ap (value_kind image) e in absurd (omega arith)
          | no q ↦ p.members v m (omega arith) c kind row
        ];
        marked = λ k n. elim (ℕ_discrete k (find_name image defined (value_atom image r))) [
          | yes e ↦ record { value = r; used = p.sound r covered; kind = kind_is; place = sym e }
          | no q ↦ p.marked k (λ z. n (get_or-set_other u.marks _ k 1 0 q ∙ z))
        ];
        marks = λ v l c kind less. elim (ℕ_discrete (find_name image defined (value_atom image v)) (find_name image defined (value_atom image r))) [
          | yes e ↦
              let inside : find_name image defined (value_atom image v) < length u.marks = rw p.marks_long less in
              subst (λ (k : ℕ). get_or (set u.marks k 1) (find_name image defined (value_atom image v)) 0 ≡ 1) e (get_or-set_same u.marks (find_name image defined (value_atom image v)) 1 0 inside)
          | no q ↦ get_or-set_other u.marks _ _ 1 0 q ∙ p.marks v (below v l q) c kind less
        ];
      }
    where
      below : (v : ℕ) → v < suc r → (find_name image defined (value_atom image v) ≡ find_name image defined (value_atom image r) → ⊥) → v < r
      below v l q =
          elim (ℕ_discrete v r) [
            | yes e ↦ absurd (q (ap (λ (x : ℕ). find_name image defined (value_atom image x)) e))
            | no n ↦ omega arith
          ]

  -- a covered list or object
  passed_members : (r : ℕ) (u : Uses) → r < count_at image values → Passed r u → Covers u.ends r → (value_kind image r ≡ variable → ⊥) → list ≤ value_kind image r → Passed (suc r) (reach_range image (value_members image r) u)
  passed_members r u less p covered n deep =
      record {
        long = adds.long ∙ p.long;
        marks_long = ap length adds.marks ∙ p.marks_long;
        sound = λ x c. from x (adds.only x c);
        begins = λ a h. adds.old a (p.begins a h);
        members = λ v m l c kind row. elim (ℕ_discrete v r) [
          | yes e ↦ adds.new m (subst (λ (x : ℕ). RowOf (value_members image x) m) e row)
          | no q ↦ adds.old m (p.members v m (omega arith) (before v l c) kind row)
        ];
        marked = λ k m. p.marked k (subst (λ (ms : List ℕ). get_or ms k 0 ≡ 0 → ⊥) adds.marks m);
        marks = λ v l c kind h. elim (ℕ_discrete v r) [
          | yes e ↦ absurd (n (ap (value_kind image) (sym e) ∙ kind))
          | no q ↦ ap (λ (ms : List ℕ). get_or ms (find_name image defined (value_atom image v)) 0) adds.marks ∙ p.marks v (omega arith) (before v l c) kind h
        ];
      }
    where
      adds : Adds image (RowOf (value_members image r)) u (reach_range image (value_members image r) u)
      adds =
          let few = few_values image good in
          adds_range image (value_members image r) u p.long ((good.value r less).members deep).within.ends (omega arith)

      before : (v : ℕ) → v < suc r → Covers (reach_range image (value_members image r) u).ends v → Covers u.ends v
      before v l c =
          let few = few_values image good in
          let later = ((good.value r less).members deep).later in
          covers_low u.ends (reach_range image (value_members image r) u).ends r v
          (λ k h. range_elsewhere image (value_members image r) u p.long ((good.value r less).members deep).within.ends (omega arith) k (λ e. omega arith)) (omega arith) c

      from : (x : ℕ) → Covers u.ends x ⊎ RowOf (value_members image r) x → UsesValue image i x
      from x (inl c) = p.sound x c
      from x (inr row) = let own = p.sound r covered in record { argument = own.argument; used = own.used; inside = member own.inside deep row }

  -- ---- one row

  abbrev reach_of : Pass → ℕ → ℕ
  reach_of p r = furthest (end_of p.uses.ends) r

  -- how far ranges go stays where only later rows change
  value_low : (r : ℕ) (u : Uses) → r < count_at image values → length u.ends ≡ count_at image values → (k : ℕ) → k < suc r → end_of (use_value image defined r u).ends k ≡ end_of u.ends k
  unfolding use_value mark_variable
  value_low r u less long k h =
      elim (ℕ_discrete (value_kind image r) variable) [
        | yes e ↦ rw (eq-eqb _ _ e)
        | no n ↦ rw (ne_eqb _ _ n) (pick (le_or_lt list (value_kind image r)))
      ]
    where
      pick : (list ≤ value_kind image r) ⊎ (value_kind image r < list) → end_of (cond (leb list (value_kind image r)) (reach_range image (value_members image r) u) u).ends k ≡ end_of u.ends k
      pick (inl deep) =
          let few = few_values image good in
          let later = ((good.value r less).members deep).later in
          rw (le-leb _ _ deep) (range_elsewhere image (value_members image r) u long ((good.value r less).members deep).within.ends (omega arith) k (λ e. omega arith))
      pick (inr flat) = rw (lt-leb _ _ flat)

  passed_value : (r : ℕ) (u : Uses) → r < count_at image values → Passed r u → Covers u.ends r → Passed (suc r) (use_value image defined r u)
  unfolding use_value
  passed_value r u less p covered =
      elim (ℕ_discrete (value_kind image r) variable) [
        | yes e ↦ rw (eq-eqb _ _ e) (passed_variable r u p covered e)
        | no n ↦ rw (ne_eqb _ _ n) (pick n (le_or_lt list (value_kind image r)))
      ]
    where
      pick : (value_kind image r ≡ variable → ⊥) → (list ≤ value_kind image r) ⊎ (value_kind image r < list) → Passed (suc r) (cond (leb list (value_kind image r)) (reach_range image (value_members image r) u) u)
      pick n (inl deep) = rw (le-leb _ _ deep) (passed_members r u less p covered n deep)
      pick n (inr flat) = rw (lt-leb _ _ flat) (passed_plain r u p n flat)

  -- the state of the pass before row r
  pub record Running (r : ℕ) (p : Pass) : Type 0 where
    pub passed : Passed r p.uses
    pub end : p.end ≡ furthest (end_of p.uses.ends) r

  running_next : (r : ℕ) (p : Pass) → r < count_at image values → Running r p → Running (suc r) (pass_row image defined r p)
  unfolding pass_row furthest
  running_next r p less run = pick (le_or_lt (max p.end (end_of p.uses.ends r)) r)
    where
      end_is : max p.end (end_of p.uses.ends r) ≡ furthest (end_of p.uses.ends) (suc r)
      end_is = rw run.end refl

      pick : (max p.end (end_of p.uses.ends r) ≤ r) ⊎ (r < max p.end (end_of p.uses.ends r))
          → Running (suc r) (record { uses = cond (ltb r (max p.end (end_of p.uses.ends r))) (use_value image defined r p.uses) p.uses; end = max p.end (end_of p.uses.ends r) })
      pick (inl past) =
          let none : Covers p.uses.ends r → ⊥ = λ c. let far = of_covers p.uses.ends r c in let e = end_is in omega arith in
          rw (le-ltb _ _ past) (record { passed = passed_by r p.uses run.passed none; end = end_is })
      pick (inr more) =
          let covered = covers_of p.uses.ends r (subst (λ (e : ℕ). r < e) end_is more) in
          let low : furthest (end_of p.uses.ends) (suc r) ≡ furthest (end_of (use_value image defined r p.uses).ends) (suc r) = furthest_same _ _ (suc r) (λ k h. sym (value_low r p.uses less run.passed.long k h)) in
          rw (lt-ltb _ _ more) (record { passed = passed_value r p.uses less run.passed covered; end = end_is ∙ low })

  running_all : (n : ℕ) (u : Uses) → n ≤ count_at image values → Passed zero u → Running n (turns (pass_row image defined) n (pass_begins image u))
  unfolding turns furthest
  running_all zero u h p = record { passed = p; end = refl }
  running_all (suc n) u h p = running_next n _ h (running_all n u (omega arith) p)

  -- ---- the beginning and the end

  none_marked : (k : ℕ) → get_or (none_used image).marks k 0 ≡ 0
  unfolding none_used
  none_marked k = pick (le_or_lt (count_at image variables) k)
    where
      pick : (count_at image variables ≤ k) ⊎ (k < count_at image variables) → ◌≡◌ {A = ℕ} (get_or (replicate (count_at image variables) 0) k 0) 0
      pick (inl h) = get_or-eq_default (replicate (count_at image variables) 0) 0 (rw (length-replicate {A = ℕ} (count_at image variables) 0) h)
      pick (inr h) = get_or-replicate _ k 0 0 h

  none_marks_long : length (none_used image).marks ≡ count_at image variables
  unfolding none_used
  none_marks_long = length-replicate _ _

  passed_none : Passed zero (reach_arguments image i)
  passed_none =
      let add = arguments_add image good i known in
      record {
        long = add.long ∙ none_long image good i known;
        marks_long = ap length add.marks ∙ none_marks_long;
        sound = λ x c. record { argument = x; used = covered_used image good i known x c; inside = whole };
        begins = λ a h. used_covered image good i known a h;
        members = λ v m l. absurd (not-suc-le-zero l);
        marked = λ k n. absurd (n (ap (λ (ms : List ℕ). get_or ms k 0) add.marks ∙ none_marked k));
        marks = λ v l. absurd (not-suc-le-zero l);
      }

  pub passed_all : Passed (count_at image values) (uses_of image defined i)
  unfolding uses_of mark_variables
  passed_all = (running_all (count_at image values) (reach_arguments image i) (omega arith) passed_none).passed

  -- ---- what is found

  -- every used value is covered
  pub used_value : (v : ℕ) → UsesValue image i v → Covers (uses_of image defined i).ends v
  used_value v u = go u.used u.inside
    where
      go : {a v : ℕ} → UsesArgument image i a → Inside image i a v → Covers (uses_of image defined i).ends v
      go used whole = passed_all.begins _ used
      go used (member {v} {m} inner kind row) =
          passed_all.members v m (value_known v (record { argument = _; used = used; inside = inner })) (go used inner) kind row

  -- an argument is covered exactly if it is used
  pub covered_argument : (a : ℕ) → a < count_at image arguments → Covers (uses_of image defined i).ends a → UsesArgument image i a
  covered_argument a less c = let own = passed_all.sound a c in top own.used own.inside
    where
      top : {b : ℕ} → UsesArgument image i b → Inside image i b a → UsesArgument image i a
      top used whole = used
      top used (member {v} inner kind row) =
          let valued = arguments_valued image good in
          let b = argument_known _ used in
          let apart = ((good.value v (inside_known (omega arith) inner)).members kind).unlike_arguments in
          let from = row.from in
          absurd (omega arith)

  pub argument_covered : (a : ℕ) → UsesArgument image i a → Covers (uses_of image defined i).ends a
  argument_covered a h = passed_all.begins a h
