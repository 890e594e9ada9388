-- The lent words of an operation's uses: what a step of the code makes of the ends and marks that they hold, a law for each way out.
-- Assumes nothing.
use mathlib.Core.Path.{◌≡◌, refl, sym, ap, subst, ◌∙◌}
use mathlib.Core.Logic.{◌⊎◌, inl, inr}
use mathlib.Core.List.{List, ◌++◌}
use Prim.Native.Nat.{ℕ, ◌+◌, ◌-◌, ◌≤◌, ◌<◌, min, max}
use native.Mathlib.Omega.{arith}
use mathlib.Core.Bool.{Bool, true, false}
use lib.Dec.{eqb, leb}
use lib.ListN.{length, get_or, set, replicate, length-replicate, length-set, replicate-append-replicate, get_or-eq_default, take, drop}
use lib.Seq.{take-set-lt, drop-set-add, set_out}
use borrow.Author.Tests.{lt-ltb, le-ltb}
use Rattle.lists.specs.Part.{part, write, Stores, Outside}
use Rattle.lists.proofs.Parts.{set_outside, outside_wider, outside_trans, outside_none, stores_kept, stores_length, stores_get_or, stores_written, stores_split, write_outside, write_none, le_or_lt}
use Rattle.tables.specs.declared.Range.{Range}
use Rattle.tables.specs.declared.columns.Selection.{Selection}
use Rattle.tables.specs.Layout.{sets, values, variables}
use Rattle.tables.specs.Image.{count_at, row_in}
use Rattle.tables.specs.Columns.{spread, variable, list, set_selections, selection_at, selection_kind, selection_target, selection_directives, field_arguments, fragment_directives, operation_directives, value_kind, value_atom, value_members}
use Rattle.reach.specs.Turns.{turns}
use Rattle.reach.specs.Reach.{Walk, walk_words, reached_from, Holds, Walked}
use Rattle.variable.specs.Definitions.{find_name}
use Rattle.variable.specs.Uses.{Uses, Pass, reach_range, reach_selection, reach_set, reach_queue, none_used, reach_arguments, mark_variable, use_value, pass_row, pass_begins, mark_variables, marks_at, names_at, uses_words, end_in, mark_in, Keeps, Steps, Queued, Reached, Passes}
use Rattle.variable.specs.Names.{Searches}
use Rattle.reach.proofs.WalkLaws.{turns_more}
use Rattle.variable.proofs.NameLaws.{named_kept}

-- a word stored in a part that is stored
part_set : {s : List ℕ} {at n : ℕ} {ws : List ℕ} (k v : ℕ) → Stores s at n ws → k < n → Stores (set s (at + k) v) at n (set ws k v)
unfolding part
part_set {s} {at} {n} {ws} k v r less =
    record {
      inside = rw length-set r.inside;
      words = ap (take n) (drop-set-add at s k v) ∙ take-set-lt n (drop at s) k v less ∙ ap (λ (l : List ℕ). set l k v) r.words;
    }

module _ (image : List ℕ) where
  -- the words of the ends and the marks
  abbrev own_words : ℕ
  own_words = count_at image values + count_at image variables

  -- ---- what the words say

  pub end_inside : (s : List ℕ) (r : ℕ) {word : ℕ} → r < count_at image values → word ≡ get_or s (walk_words image + r) 0 → word ≡ end_in image s r
  unfolding end_in
  end_inside s r less e = rw (lt-ltb _ _ less) e

  pub end_past : (s : List ℕ) (r : ℕ) → count_at image values ≤ r → 0 ≡ end_in image s r
  unfolding end_in
  end_past s r past = rw (le-ltb _ _ past)

  pub mark_inside : (s : List ℕ) (k : ℕ) {word : ℕ} → k < count_at image variables → word ≡ get_or s (marks_at image + k) 0 → word ≡ mark_in image s k
  unfolding mark_in
  mark_inside s k less e = rw (lt-ltb _ _ less) e

  pub mark_past : (s : List ℕ) (k : ℕ) → count_at image variables ≤ k → 0 ≡ mark_in image s k
  unfolding mark_in
  mark_past s k past = rw (le-ltb _ _ past)

  -- what they hold, at any row
  pub end_kept : {s : List ℕ} {u : Uses} → Keeps image s u → (r : ℕ) → end_in image s r ≡ get_or u.ends r 0
  end_kept {s} {u} k r = pick (le_or_lt (count_at image values) r)
    where
      pick : (count_at image values ≤ r) ⊎ (r < count_at image values) → end_in image s r ≡ get_or u.ends r 0
      pick (inl h) = sym (end_past s r h) ∙ sym (get_or-eq_default u.ends 0 (rw (stores_length k.ends) h))
      pick (inr h) = sym (end_inside s r h refl) ∙ stores_get_or k.ends r h

  pub mark_kept : {s : List ℕ} {u : Uses} → Keeps image s u → (j : ℕ) → mark_in image s j ≡ get_or u.marks j 0
  mark_kept {s} {u} k j = pick (le_or_lt (count_at image variables) j)
    where
      pick : (count_at image variables ≤ j) ⊎ (j < count_at image variables) → mark_in image s j ≡ get_or u.marks j 0
      pick (inl h) = sym (mark_past s j h) ∙ sym (get_or-eq_default u.marks 0 (rw (stores_length k.marks) h))
      pick (inr h) = sym (mark_inside s j h refl) ∙ stores_get_or k.marks j h

  -- ---- steps one after the other

  pub steps_idle : {step : Uses → Uses} {s : List ℕ} → ((u : Uses) → Keeps image s u → u ≡ step u) → Steps image step s s
  steps_idle {step} {s} same = record { keeps = λ u k. rw (← same u k) k; frame = outside_none (walk_words image) own_words s }

  pub steps_then : {f g : Uses → Uses} {s s' s'' : List ℕ} → Steps image f s s' → Steps image g s' s'' → Steps image (λ u. g (f u)) s s''
  steps_then p q = record { keeps = λ u k. q.keeps _ (p.keeps u k); frame = outside_trans p.frame q.frame }

  pub steps_as : {f g : Uses → Uses} {s s' : List ℕ} → Steps image f s s' → ((u : Uses) → Keeps image s u → f u ≡ g u) → Steps image g s s'
  steps_as p same = record { keeps = λ u k. rw (← same u k) (p.keeps u k); frame = p.frame }

  pub steps_none : (turn : ℕ → Uses → Uses) {s : List ℕ} → Steps image (turns turn 0) s s
  unfolding turns
  steps_none turn = steps_idle (λ u k. refl)

  pub steps_turn : (turn : ℕ → Uses → Uses) {s s' s'' : List ℕ} (i : ℕ) → Steps image (turns turn i) s s' → Steps image (turn i) s' s'' → Steps image (turns turn (i + 1)) s s''
  steps_turn turn i p q = steps_as (steps_then p q) (λ u k. turns_more turn i u)

  pub steps_all : (turn : ℕ → Uses → Uses) {s s' : List ℕ} (i j : ℕ) → Steps image (turns turn i) s s' → i ≡ j → Steps image (turns turn j) s s'
  steps_all turn i j p e = rw (← e) p

  -- ---- a range is reached

  module _ {s : List ℕ} (rows : Range) where
    ends_set : (x : ℕ) → rows.first < count_at image values → (u : Uses) → Keeps image s u → Keeps image (set s (walk_words image + rows.first) x) (record { ends = set u.ends rows.first x; marks = u.marks })
    ends_set x less u k =
        let room : uses_words image ≤ length s = k.room in
        record {
          room = rw length-set room;
          ends = part_set rows.first x k.ends less;
          marks = stores_kept (set_outside s (walk_words image + rows.first) x) k.marks (inr (omega arith));
        }

    pub range_reached : {s' : List ℕ} {known end at word : ℕ} → rows.first < count_at image values → known ≡ end_in image s rows.first → end ≡ row_in rows rows.count
        → s' ≡ set s at word → word ≡ max known end → at ≡ walk_words image + rows.first → Steps image (reach_range image rows) s s'
    unfolding reach_range
    range_reached {known = known} {end = end} less read ends stored greater place =
        record {
          keeps = λ u k. rw (lt-ltb _ _ less, stored, greater, place, ← ends, ← known_is u k) (ends_set (max known end) less u k);
          frame = rw (stored, greater, place) (outside_wider (set_outside s (walk_words image + rows.first) (max known end)) (walk_words image) own_words (omega arith) (omega arith));
        }
      where
        known_is : (u : Uses) → Keeps image s u → known ≡ get_or u.ends rows.first 0
        known_is u k = read ∙ end_kept k rows.first

  pub range_past : {s : List ℕ} (rows : Range) → count_at image values ≤ rows.first → Steps image (reach_range image rows) s s
  unfolding reach_range
  range_past rows past = steps_idle (λ u k. rw (le-ltb _ _ past))

  pub range_at_lem : {s s' : List ℕ} (rows rows' : Range) → Steps image (reach_range image rows) s s' → rows ≡ rows' → Steps image (reach_range image rows') s s'
  range_at_lem rows rows' p e = rw (← e) p

  -- ---- a selection

  module _ {s s₁ s₂ : List ℕ} (r : ℕ) {row : Selection} {spreads : Bool} (read : row ≡ selection_at image r) (kind : spreads ≡ eqb row.kind spread)
      (p : Steps image (reach_range image row.arguments) s s₁) (q : Steps image (reach_range image row.directives) s₁ s₂) where
    own : Steps image (λ u. reach_range image (selection_directives image r) (reach_range image (field_arguments image r) u)) s s₂
    own =
        steps_then (range_at_lem row.arguments (field_arguments image r) p (ap (λ (x : Selection). x.arguments) read))
        (range_at_lem row.directives (selection_directives image r) q (ap (λ (x : Selection). x.directives) read))

    kind_is : spreads ≡ eqb (selection_kind image r) spread
    kind_is = kind ∙ ap (λ (x : Selection). eqb x.kind spread) read

    pub plain_reached : spreads ≡ false → Steps image (reach_selection image r) s s₂
    unfolding reach_selection
    plain_reached e = steps_as own (λ u k. rw (sym kind_is ∙ e))

    pub spread_reached : {s₃ : List ℕ} {directives : Range} → spreads ≡ true → directives ≡ fragment_directives image row.target → Steps image (reach_range image directives) s₂ s₃
        → Steps image (reach_selection image r) s s₃
    unfolding reach_selection
    spread_reached {directives = directives} e d t =
        let same : directives ≡ fragment_directives image (selection_target image r) = d ∙ ap (λ (x : Selection). fragment_directives image x.target) read in
        steps_as (steps_then own (range_at_lem directives (fragment_directives image (selection_target image r)) t same)) (λ u k. rw (sym kind_is ∙ e))

  -- ---- a set

  rows_as : {s s' : List ℕ} (rows rows' : Range) → rows ≡ rows' → Steps image (turns (λ k. reach_selection image (row_in rows k)) rows.count) s s' → Steps image (turns (λ k. reach_selection image (row_in rows' k)) rows'.count) s s'
  rows_as rows rows' read p = rw (← read) p

  pub set_reached : {s s' : List ℕ} (t i : ℕ) (rows : Range) → Steps image (turns (λ k. reach_selection image (row_in rows k)) i) s s' → rows ≡ set_selections image t → i ≡ rows.count → Steps image (reach_set image t) s s'
  unfolding reach_set
  set_reached t i rows p read all = rows_as rows (set_selections image t) read (steps_all _ _ _ p all)

  -- ---- the queue

  -- the first i sets of the queue are passed
  pub record Queueing (s₀ : List ℕ) (n : ℕ) (s : List ℕ) (i : ℕ) : Type 0 where
    pub keeps : (w : Walk) (u : Uses) → Holds image s₀ n w → Keeps image s₀ u → Keeps image s (turns (λ j. reach_set image (get_or w.queue j 0)) i u)
    pub frame : Outside (walk_words image) own_words s₀ s

  pub queueing_begins : {s : List ℕ} {n : ℕ} → Queueing s n s 0
  unfolding turns
  queueing_begins {s} = record { keeps = λ w u h k. k; frame = outside_none (walk_words image) own_words s }

  pub queueing_on : {s₀ s s' : List ℕ} {n i set : ℕ} → Queueing s₀ n s i → i < n → set ≡ get_or s (count_at image sets + i) 0 → Steps image (reach_set image set) s s' → Queueing s₀ n s' (i + 1)
  queueing_on {s₀} {s} {s'} {n} {i} {set} q less read p =
      record { keeps = on; frame = outside_trans q.frame p.frame }
    where
      on : (w : Walk) (u : Uses) → Holds image s₀ n w → Keeps image s₀ u → Keeps image s' (turns (λ j. reach_set image (get_or w.queue j 0)) (i + 1) u)
      on w u h k =
          let few = h.few in
          let same : get_or w.queue i 0 ≡ set = sym (stores_get_or h.queue i less) ∙ sym (q.frame.below (count_at image sets + i) (omega arith)) ∙ sym read in
          rw (← turns_more (λ j. reach_set image (get_or w.queue j 0)) i u, same) (p.keeps _ (q.keeps w u h k))

  pub queueing_ends : {s₀ s : List ℕ} {n i : ℕ} → Queueing s₀ n s i → i ≡ n → Queued image s₀ n s
  unfolding reach_queue
  queueing_ends {s₀} {s} {n} {i} q e = record { keeps = all; frame = q.frame }
    where
      all : (w : Walk) (u : Uses) → Holds image s₀ n w → Keeps image s₀ u → Keeps image s (turns (λ j. reach_set image (get_or w.queue j 0)) (length w.queue) u)
      all w u h k = rw (stores_length h.queue, ← e) (q.keeps w u h k)

  -- ---- all arguments of an operation

  holds_kept : {s s' : List ℕ} {n : ℕ} {w : Walk} → Outside (walk_words image) own_words s s' → Holds image s n w → Holds image s' n w
  holds_kept {s} o h =
      let room : walk_words image ≤ length s = h.room in
      let few = h.few in
      record { room = rw o.long room; few = few; marks = stores_kept o h.marks (inl (omega arith)); queue = stores_kept o h.queue (inl (omega arith)) }

  module _ (s : List ℕ) where
    zeros : ℕ → List ℕ
    zeros k = write s (walk_words image) (replicate k 0)

    zeros_frame : (k : ℕ) → walk_words image + k ≤ length s → k ≤ own_words → Outside (walk_words image) own_words s (zeros k)
    unfolding zeros
    zeros_frame k inside few =
        let size = length-replicate {A = ℕ} k 0 in
        outside_wider (write_outside s (walk_words image) (replicate k 0) (omega arith)) (walk_words image) own_words (omega arith) (omega arith)

    zeros_keep : uses_words image ≤ length s → Keeps image (zeros own_words) (none_used image)
    unfolding none_used zeros
    zeros_keep room =
        let all : List ℕ = replicate own_words 0 in
        let front : List ℕ = replicate (count_at image values) 0 in
        let back : List ℕ = replicate (count_at image variables) 0 in
        let s' : List ℕ = write s (walk_words image) all in
        let size : length front ≡ count_at image values = length-replicate {A = ℕ} (count_at image values) 0 in
        let size' : length all ≡ own_words = length-replicate {A = ℕ} own_words 0 in
        let long : length s' ≡ length s = (zeros_frame own_words (omega arith) (omega arith)).long in
        let both : Stores s' (walk_words image) (length all) all = stores_written s (walk_words image) all (omega arith) in
        let apart : Stores s' (walk_words image) (length all) (front ++ back) = subst (Stores s' (walk_words image) (length all)) (sym (replicate-append-replicate (count_at image values) (count_at image variables) 0)) both in
        let (ends, marks) = stores_split front back apart in
        let rest : length all - length front ≡ count_at image variables = omega arith in
        record {
          room = rw long room;
          ends = subst (λ (n : ℕ). Stores s' (walk_words image) n front) size ends;
          marks = subst (λ (n : ℕ). Stores s' (walk_words image + n) (count_at image variables) back) size (subst (λ (n : ℕ). Stores s' (walk_words image + length front) n back) rest marks);
        }

  pub arguments_reached : {s s₁ s₂ s₃ s₄ : List ℕ} {n i at words : ℕ} {directives : Range} → Walked image (reached_from image (record { first = i; count = 1 })) s s₁ n
      → at ≡ walk_words image → words ≡ count_at image values + count_at image variables → s₂ ≡ write s₁ at (replicate (min words (length s₁ - at)) 0)
      → directives ≡ operation_directives image i → Steps image (reach_range image directives) s₂ s₃ → Queued image s₃ n s₄ → Reached image i s s₄
  unfolding reach_arguments zeros
  arguments_reached {s} {s₁} {s₂} {s₃} {s₄} {n} {i} {at} {words} {directives} walked place size cleared read p q =
      record { keeps = kept; frame = outside_trans (outside_wider walked.frame 0 (names_at image) (omega arith) (omega arith)) (outside_wider later 0 (names_at image) (omega arith) (omega arith)) }
    where
      clear_is : s₂ ≡ write s₁ (walk_words image) (replicate (min own_words (length s₁ - walk_words image)) 0)
      clear_is = cleared ∙ rw (place, size) refl

      clear_frame : Outside (walk_words image) own_words s₁ s₂
      clear_frame = rw clear_is (cut (le_or_lt (walk_words image) (length s₁)))
        where
          cut : (walk_words image ≤ length s₁) ⊎ (length s₁ < walk_words image) → Outside (walk_words image) own_words s₁ (write s₁ (walk_words image) (replicate (min own_words (length s₁ - walk_words image)) 0))
          cut (inl h) = zeros_frame s₁ (min own_words (length s₁ - walk_words image)) (omega arith) (omega arith)
          cut (inr h) =
              let none : min own_words (length s₁ - walk_words image) ≡ 0 = omega arith in
              rw (none, write_none s₁ (walk_words image)) (outside_none (walk_words image) own_words s₁)

      later : Outside (walk_words image) own_words s₁ s₄
      later = outside_trans clear_frame (outside_trans p.frame q.frame)

      kept : uses_words image ≤ length s → Keeps image s₄ (reach_arguments image i)
      kept room =
          let long : length s₁ ≡ length s = walked.frame.long in
          let all : min own_words (length s₁ - walk_words image) ≡ own_words = omega arith in
          let queue = holds_kept p.frame (holds_kept clear_frame (walked.holds (omega arith))) in
          let none : Keeps image s₂ (none_used image) = rw (clear_is, all) (zeros_keep s₁ (omega arith)) in
          let own : Keeps image s₃ (reach_range image (operation_directives image i) (none_used image)) = (range_at_lem directives (operation_directives image i) p read).keeps _ none in
          q.keeps _ _ queue own

  -- ---- a mark

  pub marks_variable : {s s' : List ℕ} {k at : ℕ} → k < count_at image variables → at ≡ marks_at image + k → s' ≡ set s at 1 → Steps image (mark_variable image k) s s'
  unfolding mark_variable
  marks_variable {s} {s'} {k} {at} less place stored =
      rw (stored, place)
      (record {
        keeps = λ u h.
            let room : uses_words image ≤ length s = h.room in
            record {
              room = rw length-set room;
              ends = stores_kept (set_outside s (marks_at image + k) 1) h.ends (inl (omega arith));
              marks = part_set k 1 h.marks less;
            };
        frame = outside_wider (set_outside s (marks_at image + k) 1) (walk_words image) own_words (omega arith) (omega arith);
      })

  pub marks_none : {s : List ℕ} (k : ℕ) → count_at image variables ≤ k → Steps image (mark_variable image k) s s
  unfolding mark_variable
  marks_none k past =
      steps_idle λ u h.
      let long = stores_length h.marks in
      let out : length u.marks ≤ k = omega arith in
      rw (set_out u.marks k 1 out)

  -- ---- a value

  module _ {s s' : List ℕ} (defined : Range) (r : ℕ) {is : Bool} (read : is ≡ eqb (value_kind image r) variable) where
    pub variable_used : {name k : ℕ} → is ≡ true → name ≡ value_atom image r → k ≡ find_name image defined name → Steps image (mark_variable image k) s s' → Steps image (use_value image defined r) s s'
    unfolding use_value
    variable_used {name} {k} e named found p =
        let same : k ≡ find_name image defined (value_atom image r) = found ∙ ap (find_name image defined) named in
        steps_as p (λ u h. rw (sym read ∙ e, same))

    pub members_used : {deep : Bool} {members : Range} → is ≡ false → deep ≡ leb list (value_kind image r) → deep ≡ true → members ≡ value_members image r → Steps image (reach_range image members) s s'
        → Steps image (use_value image defined r) s s'
    unfolding use_value
    members_used {members = members} n d h m p = steps_as (range_at_lem members (value_members image r) p m) (λ u k. rw (sym read ∙ n, sym d ∙ h))

  pub nothing_used : {s : List ℕ} (defined : Range) (r : ℕ) {is deep : Bool} → is ≡ eqb (value_kind image r) variable → is ≡ false → deep ≡ leb list (value_kind image r) → deep ≡ false → Steps image (use_value image defined r) s s
  unfolding use_value
  nothing_used defined r read n d h = steps_idle (λ u k. rw (sym read ∙ n, sym d ∙ h))

  -- ---- the pass

  module _ {s : List ℕ} (defined : Range) (r end : ℕ) {own next : ℕ} (read : own ≡ end_in image s r) (max-is : next ≡ max end own) where
    next_is : (u : Uses) → Keeps image s u → next ≡ max end (get_or u.ends r 0)
    next_is u k = max-is ∙ ap (max end) (read ∙ end_kept k r)

    pub row_used : {s' : List ℕ} → r < next → Steps image (use_value image defined r) s s' → Passes image defined r end s s' next
    unfolding pass_row
    row_used less p =
        record { keeps = λ u k. rw (← next_is u k, lt-ltb _ _ less) (p.keeps u k); ends = next_is; frame = p.frame }

    pub row_spared : next ≤ r → Passes image defined r end s s next
    unfolding pass_row
    row_spared past =
        record { keeps = λ u k. rw (← next_is u k, le-ltb _ _ past) k; ends = next_is; frame = outside_none (walk_words image) own_words s }

  pub record Passing (defined : Range) (s₀ s : List ℕ) (r end : ℕ) : Type 0 where
    pub keeps : (u : Uses) → Keeps image s₀ u → Keeps image s (turns (pass_row image defined) r (pass_begins image u)).uses
    pub ends : (u : Uses) → Keeps image s₀ u → end ≡ (turns (pass_row image defined) r (pass_begins image u)).end
    pub frame : Outside (walk_words image) own_words s₀ s

  pub passing_begins : {s : List ℕ} (defined : Range) → Passing defined s s 0 0
  unfolding turns
  passing_begins {s} defined = record { keeps = λ u k. k; ends = λ u k. refl; frame = outside_none (walk_words image) own_words s }

  pub passing_on : {s₀ s s' : List ℕ} {r end end' : ℕ} (defined : Range) → Passing defined s₀ s r end → Passes image defined r end s s' end' → Passing defined s₀ s' (r + 1) end'
  passing_on {s₀} {s} {s'} {r} {end} {end'} defined g p =
      record {
        keeps = λ u k. subst (λ (x : Pass). Keeps image s' x.uses) (turn_is u k) (p.keeps _ (g.keeps u k));
        ends = λ u k. p.ends _ (g.keeps u k) ∙ ap (λ (x : Pass). x.end) (turn_is u k);
        frame = outside_trans g.frame p.frame;
      }
    where
      turn_is : (u : Uses) → Keeps image s₀ u
          → pass_row image defined r (record { uses = (turns (pass_row image defined) r (pass_begins image u)).uses; end = end }) ≡ turns (pass_row image defined) (r + 1) (pass_begins image u)
      turn_is u k = rw (g.ends u k) (turns_more (pass_row image defined) r (pass_begins image u))

  pub passing_ends : {s₀ s : List ℕ} {r end : ℕ} (defined : Range) → Passing defined s₀ s r end → r ≡ count_at image values → Steps image (mark_variables image defined) s₀ s
  unfolding mark_variables
  passing_ends {s₀} {s} {r} defined g e =
      record { keeps = λ u k. subst (λ (n : ℕ). Keeps image s (turns (pass_row image defined) n (pass_begins image u)).uses) e (g.keeps u k); frame = g.frame }

  -- ---- what is said where the names can be searched

  pub searched : {defined : Range} {step : Uses → Uses} {s s' : List ℕ} → Steps image step s s' → Searches image defined s s' (Steps image step s s')
  searched p = record { says = λ n. p; frame = p.frame }

  pub passing_first : {s : List ℕ} (defined : Range) → Searches image defined s s (Passing defined s s 0 0)
  passing_first {s} defined = record { says = λ n. passing_begins defined; frame = outside_none (walk_words image) own_words s }

  pub passing_next : {s₀ s s' : List ℕ} {r end end' : ℕ} (defined : Range) → Searches image defined s₀ s (Passing defined s₀ s r end)
      → Searches image defined s s' (Passes image defined r end s s' end') → Searches image defined s₀ s' (Passing defined s₀ s' (r + 1) end')
  passing_next defined g p =
      record {
        says = λ n. passing_on defined (g.says n) (p.says (named_kept image defined (walk_words image) g.frame (omega arith) n));
        frame = outside_trans g.frame p.frame;
      }
