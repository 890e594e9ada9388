-- Kinds 10 to 13 mean the specification's rules: on an image without fault the code's answer is the one verdict on an operation's
-- variables, the kind by the first rule that fails and the row by its lowest failure. Assumes nothing.
use mathlib.Core.Path.{◌≡◌, refl, sym, ap, subst, ◌∙◌}
use mathlib.Core.Logic.{◌⊎◌, inl, inr, ◌↔◌}
use mathlib.Core.Bool.{Bool, true, false, cond, not, false≢true}
use mathlib.Core.List.{List}
use mathlib.Core.Option.{Option}
use Prim.Native.Nat.{ℕ, suc, ◌+◌, ◌-◌, ◌≤◌, ◌<◌}
use native.Mathlib.Decide.{ℕ_discrete}
use native.Mathlib.Omega.{arith}
use lib.Dec.{eqb, leb, ltb}
use lib.ListN.{get_or}
use borrow.Author.Tests.{lt-ltb, le-ltb, le-leb, lt-leb, eq-eqb, ne_eqb, eqb-true, eqb-false, not-false}
use Rattle.lists.specs.First.{expect, ◌▷◌}
use Rattle.lists.specs.Every.{position}
use Rattle.lists.proofs.EveryLaws.{position_passes, position_below, before_position}
use Rattle.lists.proofs.Parts.{le_or_lt}
use Rattle.tables.specs.declared.Range.{Range}
use Rattle.tables.specs.Layout.{NONE, operations, arguments, variables}
use Rattle.tables.specs.Image.{count_at, row_in}
use Rattle.tables.specs.Columns.{variable, operation_variables, argument_type, value_kind, value_atom, variable_name, variable_type}
use Rattle.tables.specs.Good.{Good}
use Rattle.tables.proofs.Ranges.{row_in_lem}
use Rattle.tables.proofs.OneType.{a_type}
use Rattle.reach.specs.Reach.{RowOf}
use Rattle.variable.specs.Definitions.{name_in, find_name, is_output, first_output, is_repeated, first_repeated, usage_allowed}
use Rattle.variable.specs.Uses.{furthest, uses_of, first_unused, argument_allowed, allowed_below, first_misused}
use Rattle.variable.specs.Verdict.{Shown, found_in, uses_fault, defined_fault, usage_fault}
use Rattle.variable.specs.Rules.{Lowest, Defines, UsesArgument, UsesName, AreUnique, Repeats, IsInput, AreInputs, NoInput, AreUsed, Unused, IsAllowed, IsUsage, AreAllowed, Misused, shown, Verdict, ten, eleven, twelve, thirteen, right}
use Rattle.variable.proofs.TypeMeaning.{usage_means, output_means}
use Rattle.variable.proofs.Covers.{covers_of, of_covers}
use Rattle.variable.proofs.UseMeaning.{few_variables}
use Rattle.variable.proofs.PassMeaning.{value_known, passed_all, used_value, covered_argument, argument_covered, argument_known}

-- ---- a search through the rows of a range

module _ (rows : Range) (small : rows.first + rows.count ≤ NONE) (test : ℕ → Bool) (Breaks : ℕ → Type 0)
    (within : (r : ℕ) → Breaks r → RowOf rows r)
    (breaks : (k : ℕ) → k < rows.count → test k ≡ true → Breaks (rows.first + k))
    (passes : (k : ℕ) → k < rows.count → test k ≡ false → Breaks (rows.first + k) → ⊥) where
  search_found : position rows.count test < rows.count → Lowest Breaks (row_in rows (position rows.count test))
  search_found less =
      let k = position rows.count test in
      let row : row_in rows k ≡ rows.first + k = row_in_lem rows k (omega arith) in
      rw row
      (record {
        breaks = breaks k less (position_passes rows.count test less);
        least = λ q below b.
            let from = (within q b).from in
            let place : rows.first + (q - rows.first) ≡ q = omega arith in
            passes (q - rows.first) (omega arith) (before_position rows.count test (q - rows.first) (omega arith)) (subst Breaks (sym place) b);
      })

-- where it finds nothing, every row passes
search_none : (n : ℕ) (test : ℕ → Bool) → n ≤ position n test → (k : ℕ) → k < n → test k ≡ false
search_none n test past k less = before_position n test k (omega arith)

bool_not : (b : Bool) → not b ≡ true → b ≡ false
bool_not true e = absurd (false≢true e)
bool_not false e = refl

module _ (image : List ℕ) (good : Good image) (i : ℕ) (known : i < count_at image operations) where
  abbrev own : Range
  own = operation_variables image i

  small : (operation_variables image i).first + (operation_variables image i).count ≤ NONE
  small = let few = few_variables image good in let ends = (good.operation i known).variables_within.ends in omega arith

  row_is : (k : ℕ) → k < (operation_variables image i).count → row_in own k ≡ (operation_variables image i).first + k
  row_is k less = let s = small in row_in_lem own k (omega arith)

  row_known : (k : ℕ) → k < (operation_variables image i).count → (operation_variables image i).first + k < count_at image variables
  row_known k less = let ends = (good.operation i known).variables_within.ends in omega arith

  row_of : (k : ℕ) → k < (operation_variables image i).count → Defines image i ((operation_variables image i).first + k)
  row_of k less = record { from = omega arith; below = omega arith }

  -- the place of a row that is defined
  place : (v : ℕ) → Defines image i v → (k : ℕ) × (k < (operation_variables image i).count) × ((operation_variables image i).first + k ≡ v)
  place v d = let from = d.from in let below = d.below in (v - (operation_variables image i).first, omega arith, omega arith)

  name_is : (k : ℕ) → k < (operation_variables image i).count → name_in image own k ≡ variable_name image ((operation_variables image i).first + k)
  name_is k less = ap (variable_name image) (row_is k less)

  -- ---- 10

  output_at : (k : ℕ) → k < (operation_variables image i).count → is_output image (row_in own k) ≡ is_output image ((operation_variables image i).first + k)
  output_at k less = ap (is_output image) (row_is k less)

  an_input : (v : ℕ) → v < count_at image variables → is_output image v ≡ false → IsInput image v
  an_input v h e =
      let (t, stands) = a_type image good (variable_type image v) (good.variable v h).reference in
      record { type = t; stands = stands; input = not-false _ (sym (output_means image good v h stands) ∙ e) }

  no_input : (v : ℕ) → v < count_at image variables → is_output image v ≡ true → IsInput image v → ⊥
  no_input v h e is = false≢true (sym (ap not is.input) ∙ sym (output_means image good v h is.stands) ∙ e)

  ten_found : first_output image own < (operation_variables image i).count → Lowest (NoInput image i) (row_in own (first_output image own))
  unfolding first_output
  ten_found less =
      search_found own small (λ k. is_output image (row_in own k)) (NoInput image i) (λ r b. b.defined)
      (λ k l e. record { defined = row_of k l; output = no_input _ (row_known k l) (sym (output_at k l) ∙ e) })
      (λ k l e b. b.output (an_input _ (row_known k l) (sym (output_at k l) ∙ e)))
      less

  ten_none : (operation_variables image i).count ≤ first_output image own → AreInputs image i
  unfolding first_output
  ten_none past v d =
      let (k, l, e) = place v d in
      subst (IsInput image) e (an_input _ (row_known k l) (sym (output_at k l) ∙ search_none _ (λ k. is_output image (row_in own k)) past k l))

  -- ---- 11

  -- the first of a name stands at it or before, and has the name
  find_here : (k : ℕ) → k < (operation_variables image i).count → (find_name image own (name_in image own k) < (operation_variables image i).count) × (find_name image own (name_in image own k) ≤ k) × (name_in image own (find_name image own (name_in image own k)) ≡ name_in image own k)
  find_here k less =
      let n = (operation_variables image i).count in
      let test : ℕ → Bool = λ j. eqb (name_in image own j) (name_in image own k) in
      let itself : test k ≡ true = eq-eqb (name_in image own k) (name_in image own k) refl in
      let there : position n test < n = position_below n test k less itself in
      let least : position n test ≤ k = at_most n test k itself in
      (there, least, eqb-true _ _ (position_passes n test there))
    where
      at_most : (n : ℕ) (test : ℕ → Bool) (k : ℕ) → test k ≡ true → position n test ≤ k
      at_most n test k e = pick (le_or_lt (position n test) k)
        where
          pick : (position n test ≤ k) ⊎ (k < position n test) → position n test ≤ k
          pick (inl h) = h
          pick (inr h) = absurd (false≢true (sym (before_position n test k h) ∙ e))

  repeats_at : (k : ℕ) → k < (operation_variables image i).count → (find_name image own (name_in image own k) ≡ k → ⊥) → Repeats image i ((operation_variables image i).first + k)
  repeats_at k less n =
      let (there, least, same) = find_here k less in
      let j = find_name image own (name_in image own k) in
      record {
        defined = row_of k less;
        earlier = (operation_variables image i).first + j;
        before = omega arith;
        defines = row_of j there;
        name = sym (name_is j there) ∙ same ∙ name_is k less;
      }

  first_at_lem : (k : ℕ) → k < (operation_variables image i).count → find_name image own (name_in image own k) ≡ k → Repeats image i ((operation_variables image i).first + k) → ⊥
  first_at_lem k less e b =
      let (j, l, at) = place b.earlier b.defines in
      let before : j < k = let h = b.before in omega arith in
      let same : name_in image own j ≡ name_in image own k = name_is j l ∙ ap (variable_name image) at ∙ b.name ∙ sym (name_is k less) in
      let (there, least, _) = find_here j l in
      let here : find_name image own (name_in image own j) ≡ k = ap (find_name image own) same ∙ e in
      omega arith

  eleven_found : first_repeated image own < (operation_variables image i).count → Lowest (Repeats image i) (row_in own (first_repeated image own))
  unfolding first_repeated
  eleven_found less =
      search_found own small (is_repeated image own) (Repeats image i) (λ r b. b.defined)
      (λ k l e. repeats_at k l (eqb-false _ _ (bool_not _ e)))
      (λ k l e b. first_at_lem k l (eqb-true _ _ (not-false _ e)) b)
      less

  -- each variable is the first of its name
  abbrev pub OwnFirst : Type 0
  OwnFirst = (k : ℕ) → k < (operation_variables image i).count → find_name image own (name_in image own k) ≡ k

  eleven_none : (operation_variables image i).count ≤ first_repeated image own → OwnFirst
  unfolding first_repeated
  eleven_none past k l = eqb-true _ _ (not-false _ (search_none _ (is_repeated image own) past k l))

  unique : OwnFirst → AreUnique image i
  unique first u v du dv e =
      let (j, l, at) = place u du in
      let (k, m, at') = place v dv in
      let same : name_in image own j ≡ name_in image own k = name_is j l ∙ ap (variable_name image) at ∙ e ∙ ap (variable_name image) (sym at') ∙ sym (name_is k m) in
      let equal : j ≡ k = sym (first j l) ∙ ap (find_name image own) same ∙ first k m in
      omega arith

  -- ---- 12

  abbrev mark_at : ℕ → ℕ
  mark_at k = get_or (uses_of image own i).marks k 0

  abbrev end_at : ℕ → ℕ
  end_at r = get_or (uses_of image own i).ends r 0

  module _ (first : OwnFirst) where
    used_marked : (k : ℕ) → k < (operation_variables image i).count → UsesName image i (variable_name image ((operation_variables image i).first + k)) → mark_at k ≡ 1
    used_marked k less u =
        let v = u.value in
        let at : find_name image own (value_atom image v) ≡ k = ap (find_name image own) (u.atom ∙ sym (name_is k less)) ∙ first k less in
        let inside : find_name image own (value_atom image v) < count_at image variables = let h = row_known k less in omega arith in
        let covered = used_value image good i known own v u.used in
        ap mark_at (sym at) ∙ (passed_all image good i known own).marks v (value_known image good i known own v u.used) covered u.kind inside

    marked_used : (k : ℕ) → k < (operation_variables image i).count → (mark_at k ≡ 0 → ⊥) → UsesName image i (variable_name image ((operation_variables image i).first + k))
    marked_used k less n =
        let at = (passed_all image good i known own).marked k n in
        let found : find_name image own (value_atom image at.value) < (operation_variables image i).count = let e = at.place in omega arith in
        let passes = eqb-true _ _ (position_passes (operation_variables image i).count (λ j. eqb (name_in image own j) (value_atom image at.value)) found) in
        let name : name_in image own k ≡ value_atom image at.value = ap (name_in image own) (sym at.place) ∙ passes in
        record { value = at.value; used = at.used; kind = at.kind; atom = sym name ∙ name_is k less }

    twelve_found : first_unused image own mark_at < (operation_variables image i).count → Lowest (Unused image i) (row_in own (first_unused image own mark_at))
    unfolding first_unused
    twelve_found less =
        search_found own small (λ k. eqb (mark_at k) 0) (Unused image i) (λ r b. b.defined)
        (λ k l e. record { defined = row_of k l; unused = λ u. let z : mark_at k ≡ 0 = eqb-true _ _ e in let m = used_marked k l u in omega arith })
        (λ k l e b. b.unused (marked_used k l (eqb-false _ _ e)))
        less

    twelve_none : (operation_variables image i).count ≤ first_unused image own mark_at → AreUsed image i
    unfolding first_unused
    twelve_none past v d =
        let (k, l, at) = place v d in
        subst (λ (x : ℕ). UsesName image i (variable_name image x)) at (marked_used k l (eqb-false _ _ (search_none _ (λ k. eqb (mark_at k) 0) past k l)))

    -- ---- 13

    -- what is allowed of the types is what the code allows of the rows
    is_allowed : (v a : ℕ) → v < count_at image variables → a < count_at image arguments → usage_allowed image v a ≡ true → IsAllowed image v a
    is_allowed v a hv ha e =
        let (s, own_stands) = a_type image good (variable_type image v) (good.variable v hv).reference in
        let (t, place_stands) = a_type image good (argument_type image a) (good.argument a ha).reference in
        record { own = s; own_stands = own_stands; place = t; place_stands = place_stands; allowed = sym (usage_means image good v a hv ha own_stands place_stands) ∙ e }

    not_allowed : (v a : ℕ) → v < count_at image variables → a < count_at image arguments → usage_allowed image v a ≡ false → IsAllowed image v a → ⊥
    not_allowed v a hv ha e is = false≢true (sym e ∙ usage_means image good v a hv ha is.own_stands is.place_stands ∙ is.allowed)

    -- the variable that an argument is
    module _ (a : ℕ) (less : a < count_at image arguments) where
      refused_misused : UsesArgument image i a → argument_allowed image own a ≡ false → Misused image i a
      unfolding argument_allowed
      refused_misused used e =
          elim (ℕ_discrete (value_kind image a) variable) [
            | yes p ↦ direct p (le_or_lt (operation_variables image i).count (find_name image own (value_atom image a))) (rw (eq-eqb _ _ p) at e)
            | no q ↦ absurd (false≢true (sym (rw (ne_eqb _ _ q) at e)))
          ]
        where
          k : ℕ
          k = find_name image own (value_atom image a)

          direct : value_kind image a ≡ variable → ((operation_variables image i).count ≤ find_name image own (value_atom image a)) ⊎ (find_name image own (value_atom image a) < (operation_variables image i).count)
              → cond (ltb (find_name image own (value_atom image a)) (operation_variables image i).count) (usage_allowed image (row_in own (find_name image own (value_atom image a))) a) true ≡ false
              → Misused image i a
          direct p (inl past) f = absurd (false≢true (sym (rw (le-ltb _ _ past) at f)))
          direct p (inr there) f =
              let row = row_is (find_name image own (value_atom image a)) there in
              let no : usage_allowed image (row_in own (find_name image own (value_atom image a))) a ≡ false = rw (lt-ltb _ _ there) at f in
              let name = eqb-true _ _ (position_passes (operation_variables image i).count (λ j. eqb (name_in image own j) (value_atom image a)) there) in
              record {
                by = (operation_variables image i).first + find_name image own (value_atom image a);
                usage = record { used = used; kind = p; defined = row_of _ there; name = sym (name_is _ there) ∙ name };
                refused = not_allowed _ a (row_known _ there) less (ap (λ (v : ℕ). usage_allowed image v a) (sym row) ∙ no);
              }

      allowed_usage : argument_allowed image own a ≡ true → (v : ℕ) → IsUsage image i v a → IsAllowed image v a
      unfolding argument_allowed
      allowed_usage e v u =
          let (k, l, at) = place v u.defined in
          let name : name_in image own k ≡ value_atom image a = name_is k l ∙ ap (variable_name image) at ∙ u.name in
          let found : find_name image own (value_atom image a) ≡ k = ap (find_name image own) (sym name) ∙ first k l in
          let plain : cond (ltb (find_name image own (value_atom image a)) (operation_variables image i).count) (usage_allowed image (row_in own (find_name image own (value_atom image a))) a) true ≡ true = rw (eq-eqb _ _ u.kind) at e in
          let placed : cond (ltb k (operation_variables image i).count) (usage_allowed image (row_in own k) a) true ≡ true = subst (λ (j : ℕ). cond (ltb j (operation_variables image i).count) (usage_allowed image (row_in own j) a) true ≡ true) found plain in
          let yes : usage_allowed image (row_in own k) a ≡ true = rw (lt-ltb _ _ l) at placed in
          let row : row_in own k ≡ v = row_is k l ∙ at in
          let inside : v < count_at image variables = let h = row_known k l in omega arith in
          is_allowed v a inside less (ap (λ (x : ℕ). usage_allowed image x a) (sym row) ∙ yes)

    -- the test of the search, where the argument is covered or not
    test_breaks : (a : ℕ) → a < count_at image arguments → not (allowed_below image own a (furthest end_at (suc a))) ≡ true → Misused image i a
    unfolding allowed_below
    test_breaks a less e = pick (le_or_lt (furthest end_at (suc a)) a) (bool_not _ e)
      where
        pick : (furthest end_at (suc a) ≤ a) ⊎ (a < furthest end_at (suc a)) → cond (ltb a (furthest end_at (suc a))) (argument_allowed image own a) true ≡ false → Misused image i a
        pick (inl past) f = absurd (false≢true (sym (rw (le-ltb _ _ past) at f)))
        pick (inr far) f = refused_misused a less (covered_argument image good i known own a less (covers_of _ a far)) (rw (lt-ltb _ _ far) at f)

    test_passes : (a : ℕ) → not (allowed_below image own a (furthest end_at (suc a))) ≡ false → (v : ℕ) → IsUsage image i v a → IsAllowed image v a
    unfolding allowed_below
    test_passes a e v u =
        let less = argument_known image good i known own a u.used in
        let far = of_covers _ a (argument_covered image good i known own a u.used) in
        let yes : cond (ltb a (furthest end_at (suc a))) (argument_allowed image own a) true ≡ true = not-false _ e in
        allowed_usage a less (rw (lt-ltb _ _ far) at yes) v u

    thirteen_found : first_misused image own end_at < count_at image arguments → Lowest (Misused image i) (first_misused image own end_at)
    unfolding first_misused
    thirteen_found less =
        let test : ℕ → Bool = λ a. not (allowed_below image own a (furthest end_at (suc a))) in
        record {
          breaks = test_breaks (position (count_at image arguments) test) less (position_passes (count_at image arguments) test less);
          least = λ q below b.
              b.refused (test_passes q (before_position (count_at image arguments) test q below) b.by b.usage);
        }

    thirteen_none : count_at image arguments ≤ first_misused image own end_at → AreAllowed image i
    unfolding first_misused
    thirteen_none past v a u =
        let less = argument_known image good i known own a u.used in
        test_passes a (search_none _ (λ a. not (allowed_below image own a (furthest end_at (suc a)))) past a less) v u

  -- ---- the verdict

  uses_verdict : AreInputs image i → (first : OwnFirst) → Verdict image i (uses_fault image own end_at mark_at)
  unfolding uses_fault expect ◌▷◌
  uses_verdict inputs first = used (le_or_lt (operation_variables image i).count (first_unused image own mark_at))
    where
      allowed : (operation_variables image i).count ≤ first_unused image own mark_at → (count_at image arguments ≤ first_misused image own end_at) ⊎ (first_misused image own end_at < count_at image arguments)
          → Verdict image i (expect (leb (count_at image arguments) (first_misused image own end_at)) (record { kind = 13; a = first_misused image own end_at }))
      allowed all (inl past) = right inputs (unique first) (twelve_none first all) (thirteen_none first past) (rw (le-leb _ _ past))
      allowed all (inr less) = thirteen _ inputs (unique first) (twelve_none first all) (thirteen_found first less) (rw (lt-leb _ _ less))

      used : ((operation_variables image i).count ≤ first_unused image own mark_at) ⊎ (first_unused image own mark_at < (operation_variables image i).count)
          → Verdict image i (uses_fault image own end_at mark_at)
      used (inl past) = rw (le-leb _ _ past) (allowed past (le_or_lt (count_at image arguments) (first_misused image own end_at)))
      used (inr less) = twelve _ inputs (unique first) (twelve_found first less) (rw (lt-leb _ _ less))

  -- what the code answers is a verdict
  pub verdict : Verdict image i (usage_fault image i)
  unfolding defined_fault expect ◌▷◌
  verdict = types (le_or_lt (operation_variables image i).count (first_output image own))
    where
      names : AreInputs image i → ((operation_variables image i).count ≤ first_repeated image own) ⊎ (first_repeated image own < (operation_variables image i).count)
          → Verdict image i (found_in image own 11 (first_repeated image own) ▷ uses_fault image own end_at mark_at)
      names inputs (inl past) = rw (le-leb _ _ past) (uses_verdict inputs (eleven_none past))
      names inputs (inr less) = eleven _ inputs (eleven_found less) (rw (lt-leb _ _ less))

      types : ((operation_variables image i).count ≤ first_output image own) ⊎ (first_output image own < (operation_variables image i).count) → Verdict image i (usage_fault image i)
      types (inl past) = rw (le-leb _ _ past) (names (ten_none past) (le_or_lt (operation_variables image i).count (first_repeated image own)))
      types (inr less) = ten _ (ten_found less) (rw (lt-leb _ _ less))

-- ---- a verdict is the only one

lowest_one : {Breaks : ℕ → Type 0} {q r : ℕ} → Lowest Breaks q → Lowest Breaks r → q ≡ r
lowest_one {Breaks} {q} {r} a b =
    elim (ℕ_discrete q r) [
      | yes p ↦ p
      | no n ↦ absurd (pick n (le_or_lt q r))
    ]
  where
    pick : (q ≡ r → ⊥) → (q ≤ r) ⊎ (r < q) → ⊥
    pick n (inl h) = b.least q (omega arith) a.breaks
    pick n (inr h) = a.least r h b.breaks

module _ (image : List ℕ) (i : ℕ) where
  input_breaks : {A : Type 0} {v : ℕ} → AreInputs image i → Lowest (NoInput image i) v → A
  input_breaks all l = absurd (l.breaks.output (all _ l.breaks.defined))

  unique_breaks : {A : Type 0} {v : ℕ} → AreUnique image i → Lowest (Repeats image i) v → A
  unique_breaks all l = let b = l.breaks in let before = b.before in let same = all b.earlier _ b.defines b.defined b.name in absurd (omega arith)

  used_breaks : {A : Type 0} {v : ℕ} → AreUsed image i → Lowest (Unused image i) v → A
  used_breaks all l = absurd (l.breaks.unused (all _ l.breaks.defined))

  allowed_breaks : {A : Type 0} {a : ℕ} → AreAllowed image i → Lowest (Misused image i) a → A
  allowed_breaks all l = absurd (l.breaks.refused (all _ _ l.breaks.usage))

  pub verdict_one : (o p : Option Shown) → Verdict image i o → Verdict image i p → o ≡ p
  verdict_one o p (ten v l e) (ten w m f) = e ∙ ap (shown image i 10) (lowest_one l m) ∙ sym f
  verdict_one o p (ten v l e) (eleven w a m f) = input_breaks a l
  verdict_one o p (ten v l e) (twelve w a b m f) = input_breaks a l
  verdict_one o p (ten v l e) (thirteen w a b c m f) = input_breaks a l
  verdict_one o p (ten v l e) (right a b c d f) = input_breaks a l
  verdict_one o p (eleven v a l e) (ten w m f) = input_breaks a m
  verdict_one o p (eleven v a l e) (eleven w b m f) = e ∙ ap (shown image i 11) (lowest_one l m) ∙ sym f
  verdict_one o p (eleven v a l e) (twelve w b c m f) = unique_breaks c l
  verdict_one o p (eleven v a l e) (thirteen w b c d m f) = unique_breaks c l
  verdict_one o p (eleven v a l e) (right b c d g f) = unique_breaks c l
  verdict_one o p (twelve v a b l e) (ten w m f) = input_breaks a m
  verdict_one o p (twelve v a b l e) (eleven w c m f) = unique_breaks b m
  verdict_one o p (twelve v a b l e) (twelve w c d m f) = e ∙ ap (shown image i 12) (lowest_one l m) ∙ sym f
  verdict_one o p (twelve v a b l e) (thirteen w c d g m f) = used_breaks g l
  verdict_one o p (twelve v a b l e) (right c d g h f) = used_breaks g l
  verdict_one o p (thirteen v a b c l e) (ten w m f) = input_breaks a m
  verdict_one o p (thirteen v a b c l e) (eleven w d m f) = unique_breaks b m
  verdict_one o p (thirteen v a b c l e) (twelve w d g m f) = used_breaks c m
  verdict_one o p (thirteen v a b c l e) (thirteen w d g h m f) = e ∙ ap (shown image i 13) (lowest_one l m) ∙ sym f
  verdict_one o p (thirteen v a b c l e) (right d g h k f) = allowed_breaks k l
  verdict_one o p (right a b c d e) (ten w m f) = input_breaks a m
  verdict_one o p (right a b c d e) (eleven w g m f) = unique_breaks b m
  verdict_one o p (right a b c d e) (twelve w g h m f) = used_breaks c m
  verdict_one o p (right a b c d e) (thirteen w g h k m f) = allowed_breaks d m
  verdict_one o p (right a b c d e) (right g h k m f) = e ∙ sym f

-- An answer is the code's exactly if it is the verdict: on an image without fault, of each of its operations.
pub verdict_exactly : (image : List ℕ) → Good image → (i : ℕ) → i < count_at image operations → (o : Option Shown) → (usage_fault image i ≡ o) ↔ Verdict image i o
verdict_exactly image good i known o =
    ((λ e. subst (Verdict image i) e (verdict image good i known)), (λ v. verdict_one image i (usage_fault image i) o (verdict image good i known) v))
