-- A pass that is gone through has compared every pair of the lists that it comes to, as if nothing were known: what is known was walked, or
-- is under way further up, which the ranks exclude. So T2 and B5. Assumes `Sound`.
use mathlib.Core.Path.{◌≡◌, refl, sym, subst}
use mathlib.Core.Logic.{◌⊎◌, inl, inr, ⊎_map, ⊎_elim}
use mathlib.Core.Bool.{Bool, true, false}
use mathlib.Core.Option.{Option, none, some}
use mathlib.Core.List.{List, [], ◌∷◌}
use Prim.Native.Nat.{ℕ, zero, suc, ◌+◌, ◌≤◌, ◌<◌, suc-le-suc}
use native.Mathlib.Nat.{le_refl, le_trans, not-suc-le-zero, le_of_suc-le-suc}
use native.Mathlib.Omega.{arith}
use lib.Dec.{T, leb}
use Rattle.merge_theory.specs.Lists.{◌∈◌, here, there, Every, is_known}
use Rattle.merge_theory.specs.Document.{Document, Cause, Sound, FieldAt}
use Rattle.merge_theory.specs.Expand.{expand}
use Rattle.merge_theory.specs.Steps.{Entry, entry, State, finished, Step, after, ◌then◌, charge_if, charge, Found, tell}
use Rattle.merge_theory.specs.Walk.{Pass, against, compare_first, descend, sets_below, cost_of, noted, note, enter, meet, walk_parts, walk, fresh, pass}
use Rattle.merge_theory.specs.Named.{Met, top, below, Compared, compared}
use Rattle.merge_theory.proofs.ListLaws.{head_in, not_in_nil, only, in_append, is_known→in}
use Rattle.merge_theory.proofs.ExpandLaws.{expand_sound, expand_at}
use Rattle.merge_theory.proofs.Levels.{no_field, from_below, from_sets_below, below_at}
use Rattle.merge_theory.proofs.Outcome.{Shallow, Meets, meets_after, meets_weaken}
use Rattle.merge_theory.proofs.Passes.{PassLaws}
use Rattle.merge_theory.proofs.Height.{height, height_falls, height_member, height_limit}

-- ---- what a walk of a list compares and finds to clash, at any level

module _ (D : Document) (P : Pass) where
  pub data Under : List ℕ → Cause → ℕ → ℕ → Type 0 where
    this_list : {fields others : List ℕ} {a b : ℕ} {c : Cause} → (a ∷ others) ∈ P.parts fields → b ∈ others → P.clash a b ≡ some c
        → Under fields c a b
    next_list : {fields part : List ℕ} {a b : ℕ} {c : Cause} → part ∈ P.parts fields → Under (expand D (sets_below D part)) c a b
        → Under fields c a b

  met_under : {s : ℕ} {sets : List ℕ} {a b : ℕ} {c : Cause} → Met D P s sets → Under (expand D sets) c a b → Under (expand D (s ∷ [])) c a b
  met_under top u = u
  met_under (below met m) u = met_under met (next_list m u)

  pub compared_under : {s a b : ℕ} {c : Cause} → Compared D P s c a b → Under (expand D (s ∷ [])) c a b
  compared_under (compared met m i e) = met_under met (this_list m i e)

-- ---- what a conflict leaves behind, where the walk goes on: nothing, as a check stops there; or its entry

abbrev pub Trace : Type 1
Trace = Entry → List Entry → Type 0

-- nothing is lost
abbrev pub Grown : Trace → List Entry → List Entry → Type 0
Grown Left entries more = (e : Entry) → Left e entries → Left e more

abbrev pub Leaves : Found → Trace → Type 0
Leaves found Left = (e : Entry) (z : State)
    → Meets (λ y. Left e y.entries × (y.known ≡ z.known) × Grown Left z.entries y.entries) Shallow (found e z)

module _ (D : Document) {At : ℕ → Type 0} (S : Sound D At) (P : Pass) (Near : ℕ → ℕ → Type 0) (L : PassLaws D P Near)
    (found : Found) (Left : Trace) (leaves : Leaves found Left) (s : ℕ) where
  -- all that the walk of the list compares and finds to clash is left behind
  abbrev pub Done : List Entry → List ℕ → Type 0
  Done entries l = (c : Cause) (a b : ℕ) → Under D P l c a b → Left (entry s c a b) entries

  -- each known list is done, or is in progress further up: of height n at least. A list that is met has less.
  abbrev Sure : ℕ → State → Type 0
  Sure n z = (l : List ℕ) → l ∈ z.known → Done z.entries l ⊎ (n ≤ height D S l)

  -- what became known in the meantime is done, and nothing is lost
  abbrev Kept : State → State → Type 0
  Kept z y = ((l : List ℕ) → l ∈ y.known → Done y.entries l ⊎ (l ∈ z.known)) × Grown Left z.entries y.entries

  kept_refl : (z : State) → Kept z z
  kept_refl z = ((λ l m. inr m), λ e h. h)

  kept_trans : (z y x : State) → Kept z y → Kept y x → Kept z x
  kept_trans z y x (done, grown) (done', grown') = (
    λ l m. ⊎_elim inl (λ n. ⊎_map (λ d c a b u. grown' (entry s c a b) (d c a b u)) (λ i. i) (done l n)) (done' l m),
    λ e h. grown' e (grown e h),
  )

  sure_kept : (n : ℕ) (z y : State) → Sure n z → Kept z y → Sure n y
  sure_kept n z y sure (done, grown) l m = ⊎_elim inl (λ i. ⊎_map (λ d c a b u. grown (entry s c a b) (d c a b u)) (λ h. h) (sure l i)) (done l m)

  sure_less : (n k : ℕ) (z : State) → k ≤ n → Sure n z → Sure k z
  sure_less n k z le sure l m = ⊎_map (λ d. d) lower (sure l m)
    where
      lower : n ≤ height D S l → k ≤ height D S l
      lower h = omega arith

  -- ---- steps

  -- where the step is gone through, what is wanted is left behind
  abbrev Wanted : Type 1
  Wanted = Cause → ℕ → ℕ → Type 0

  abbrev All : Wanted → List Entry → Type 0
  All W entries = (c : Cause) (a b : ℕ) → W c a b → Left (entry s c a b) entries

  abbrev Goes : ℕ → Wanted → Step → Type 0
  Goes n W step = (z : State) → Sure n z → Meets (λ y. All W y.entries × Kept z y) Shallow (step z)

  goes_weaken : (n : ℕ) (W W' : Wanted) (step : Step) → ((c : Cause) (a b : ℕ) → W' c a b → W c a b) → Goes n W step → Goes n W' step
  goes_weaken n W W' step go h z sure =
      meets_weaken (λ y. All W y.entries × Kept z y) _ Shallow (step z) (λ y f. ((λ c a b w. f.0 c a b (go c a b w)), f.1)) (h z sure)

  goes_then : (n : ℕ) (W W' : Wanted) (first next : Step) → Goes n W first → Goes n W' next
      → Goes n (λ c a b. W c a b ⊎ W' c a b) (first then next)
  goes_then n W W' first next h g z sure =
      meets_after (λ y. All W y.entries × Kept z y) _ Shallow (first z) next (h z sure)
      (λ y f.
      meets_weaken (λ x. All W' x.entries × Kept y x) _ Shallow (next y)
      (λ x k. ((λ c a b. ⊎_elim (λ w. k.1.1 (entry s c a b) (f.0 c a b w)) (k.0 c a b)), kept_trans z y x f.1 k.1))
      (g y (sure_kept n z y sure f.1)))

  goes_finished : (n : ℕ) (W : Wanted) → ((c : Cause) (a b : ℕ) → ¬ W c a b) → Goes n W finished
  goes_finished n W nothing z sure = ((λ c a b w. absurd (nothing c a b w)), kept_refl z)

  -- ---- comparisons

  -- the conflict of a comparison's outcome
  abbrev Of : Option Cause → ℕ → ℕ → Wanted
  Of o a b c a' b' = (o ≡ some c) × (a' ≡ a) × (b' ≡ b)

  goes_found : (n : ℕ) (c : Cause) (a b : ℕ) → Goes n (Of (some c) a b) (found (entry s c a b))
  goes_found n c a b z sure =
      meets_weaken (λ y. Left (entry s c a b) y.entries × (y.known ≡ z.known) × Grown Left z.entries y.entries) _ Shallow (found (entry s c a b) z)
      (λ y h. ((λ c' a' b' w. same h.0 w), ((λ l m. inr (subst (λ (k : List (List ℕ)). l ∈ k) h.1 m)), h.2))) (leaves (entry s c a b) z)
    where
      same : {c' : Cause} {a' b' : ℕ} {entries : List Entry} → Left (entry s c a b) entries → Of (some c) a b c' a' b' → Left (entry s c' a' b') entries
      same {c'} {a'} {b'} {entries} h (e, ea, eb) =
          let q : c ≡ c' = cc in
          subst (λ x. Left (entry s x a' b') entries) q (subst (λ x. Left (entry s c x b') entries) (sym ea) (subst (λ x. Left (entry s c a x) entries) (sym eb) h))

  goes_tell : (n : ℕ) (o : Option Cause) (a b : ℕ) → Goes n (Of o a b) (tell found s o a b)
  unfolding tell
  goes_tell n none a b = goes_finished n _ (λ c a' b' w. none_some w.0)
    where
      none_some : {c : Cause} → none ≡ some c → ⊥
      none_some e = let w : ◌≡◌ {A = ℕ} 0 1 = cc in omega arith
  goes_tell n (some c) a b = goes_found n c a b

  -- the first field of a part and another
  abbrev InPart : ℕ → List ℕ → Wanted
  InPart f others c a b = (a ≡ f) × (b ∈ others) × (P.clash f b ≡ some c)

  goes_against : (n f : ℕ) (others : List ℕ) → Goes n (InPart f others) (against found s P.clash f others)
  unfolding against
  goes_against n f [] = goes_finished n _ (λ c a b w. not_in_nil w.1)
  goes_against n f (d ∷ others) =
      goes_weaken n _ _ (tell found s (P.clash f d) f d then against found s P.clash f others) split
      (goes_then n _ _ (tell found s (P.clash f d) f d) (against found s P.clash f others) (goes_tell n (P.clash f d) f d)
      (goes_against n f others))
    where
      split : (c : Cause) (a b : ℕ) → InPart f (d ∷ others) c a b → Of (P.clash f d) f d c a b ⊎ InPart f others c a b
      split c a b (e, here q, clash) = inl (subst (λ x. P.clash f x ≡ some c) q clash, e, q)
      split c a b (e, there m, clash) = inr (e, m, clash)

  -- of any part
  abbrev OfPart : List ℕ → Wanted
  OfPart [] c a b = ⊥
  OfPart (f ∷ others) c a b = InPart f others c a b

  goes_compare : (n : ℕ) (part : List ℕ) → Goes n (OfPart part) (compare_first found s P.clash part)
  unfolding compare_first
  goes_compare n [] = goes_finished n _ (λ c a b w. w)
  goes_compare n (f ∷ others) = goes_against n f others

  -- ---- parts, with all that is below them

  -- a list with no fields has nothing to compare
  under_none : {fields : List ℕ} {c : Cause} {a b : ℕ} → ((f : ℕ) → ¬ (f ∈ fields)) → ¬ Under D P fields c a b
  under_none {fields} {a = a} empty (this_list m i e) = empty a (L.part_in fields _ a m head_in)
  under_none {fields} empty (next_list {part = part} m u) = under_none lower u
    where
      lower : (f : ℕ) → ¬ (f ∈ expand D (sets_below D part))
      lower f i = let (a, j, h) = from_below D (expand_sound D (sets_below D part) i) in empty a (L.part_in fields part a m j)

  -- a walk with so many levels to go: where it is gone through, the list is done
  abbrev Good : ℕ → (List ℕ → Step) → Type 0
  Good levels lower =
      (sets : List ℕ) → Every At sets → height D S (expand D sets) < levels
      → Goes (suc (height D S (expand D sets))) (Under D P (expand D sets)) (lower sets)

  -- from here on n is the height of the list whose parts are walked, and there are as many levels to go
  goes_descend : (levels : ℕ) (lower : List ℕ → Step) → Good levels lower → (n : ℕ) → n ≤ levels → (sets : List ℕ)
      → Every At sets → Every (λ t. S.rank t < n) sets → Goes n (Under D P (expand D sets)) (descend lower sets)
  unfolding descend
  goes_descend levels lower good n le [] at low = goes_finished n _ (λ c a b. under_none (λ f m. no_field D (expand_sound D [] m)))
  goes_descend levels lower good n le (t ∷ sets) at low = λ z sure.
      let falls : height D S (expand D (t ∷ sets)) < n = height_falls D S n (t ∷ sets) at low head_in in
      good (t ∷ sets) at (le_trans falls le) z (sure_less n (suc (height D S (expand D (t ∷ sets)))) z falls sure)

  -- of one of the parts, or below it
  abbrev InParts : List (List ℕ) → Wanted
  InParts parts c a b = (part : List ℕ) × (part ∈ parts) × (OfPart part c a b ⊎ Under D P (expand D (sets_below D part)) c a b)

  goes_parts : (levels : ℕ) (lower : List ℕ → Step) → Good levels lower → (n : ℕ) → n ≤ levels → (parts : List (List ℕ))
      → ((part : List ℕ) → part ∈ parts → Every (FieldAt D At) part)
      → ((part : List ℕ) → part ∈ parts → Every (λ s. S.rank s < n) (sets_below D part))
      → Goes n (InParts parts) (walk_parts D P found s lower parts)
  unfolding walk_parts
  goes_parts levels lower good n le [] at low = goes_finished n _ (λ c a b w. not_in_nil w.1)
  goes_parts levels lower good n le (part ∷ parts) at low =
      goes_weaken n _ _ (compare_first found s P.clash part then descend lower (sets_below D part) then walk_parts D P found s lower parts) split
      (goes_then n _ _ (compare_first found s P.clash part) _ (goes_compare n part)
      (goes_then n _ _ (descend lower (sets_below D part)) _
      (goes_descend levels lower good n le (sets_below D part) (below_at D S (at part head_in)) (low part head_in))
      (goes_parts levels lower good n le parts (λ p m. at p (there m)) (λ p m. low p (there m)))))
    where
      first : {c : Cause} {a b : ℕ} → OfPart part c a b ⊎ Under D P (expand D (sets_below D part)) c a b
          → OfPart part c a b ⊎ (Under D P (expand D (sets_below D part)) c a b ⊎ InParts parts c a b)
      first (inl i) = inl i
      first (inr u) = inr (inl u)

      split : (c : Cause) (a b : ℕ) → InParts (part ∷ parts) c a b
          → OfPart part c a b ⊎ (Under D P (expand D (sets_below D part)) c a b ⊎ InParts parts c a b)
      split c a b (p, here q, h) = first (subst (λ (x : List ℕ). OfPart x c a b ⊎ Under D P (expand D (sets_below D x)) c a b) q h)
      split c a b (p, there m, h) = inr (inr (p, m, h))

  -- ---- a list that is met

  abbrev Nothing : Wanted
  Nothing c a b = ⊥

  goes_charge : (budget cost n : ℕ) → Goes n Nothing (charge budget cost)
  unfolding charge charge_if
  goes_charge budget cost n z = by_test (leb (z.used + cost) budget)
    where
      by_test : (b : Bool) → Sure n z → Meets (λ y. All Nothing y.entries × Kept z y) Shallow (charge_if b cost z)
      by_test true sure = ((λ c a b w. absurd w), ((λ l m. inr m), λ e h. h))
      by_test false sure = tt

  part_low : (fields part : List ℕ) → part ∈ P.parts fields → Every (λ s. S.rank s < height D S fields) (sets_below D part)
  part_low fields part m s i =
      let (a, j, k) = from_sets_below D part i in
      height_member D S fields (L.part_in fields part a m j) k

  -- while its parts are walked, a list is known and in progress
  sure_note : (fields : List ℕ) (z : State) → Sure (suc (height D S fields)) z → Sure (height D S fields) (noted fields z)
  sure_note fields z sure l m = pick (in_append z.known m)
    where
      lower : Done z.entries l ⊎ (suc (height D S fields) ≤ height D S l) → Done z.entries l ⊎ (height D S fields ≤ height D S l)
      lower (inl d) = inl d
      lower (inr h) = inr (omega arith)

      pick : (l ∈ z.known) ⊎ (l ∈ (fields ∷ [])) → Done z.entries l ⊎ (height D S fields ≤ height D S l)
      pick (inl i) = lower (sure l i)
      pick (inr (here e)) = inr (subst (λ x. height D S fields ≤ height D S x) (sym e) (le_refl (height D S fields)))
      pick (inr (there i)) = absurd (not_in_nil i)

  -- afterwards it is done
  kept_note : (fields : List ℕ) (z y : State) → Done y.entries fields → Kept (noted fields z) y → Kept z y
  kept_note fields z y done (kept, grown) = ((λ l m. ⊎_elim inl (λ i. pick (in_append z.known i)) (kept l m)), grown)
    where
      pick : {l : List ℕ} → (l ∈ z.known) ⊎ (l ∈ (fields ∷ [])) → Done y.entries l ⊎ (l ∈ z.known)
      pick (inl i) = inr i
      pick (inr (here e)) = inl (subst (Done y.entries) (sym e) done)
      pick (inr (there i)) = absurd (not_in_nil i)

  -- a known list that is met is done: it is too low to be in progress
  known_done : (fields : List ℕ) (z : State) → Sure (suc (height D S fields)) z → fields ∈ z.known → Done z.entries fields
  known_done fields z sure m = pick (sure fields m)
    where
      pick : Done z.entries fields ⊎ (suc (height D S fields) ≤ height D S fields) → Done z.entries fields
      pick (inl d) = d
      pick (inr h) = absurd (omega arith)

  in_parts : (fields : List ℕ) (c : Cause) (a b : ℕ) → Under D P fields c a b → InParts (P.parts fields) c a b
  in_parts fields c a b (this_list {others = others} m i e) = (a ∷ others, m, inl (refl, i, e))
  in_parts fields c a b (next_list {part = part} m u) = (part, m, inr u)

  goes_note : (levels : ℕ) (lower : List ℕ → Step) → Good levels lower → (fields : List ℕ) → Every (FieldAt D At) fields
      → height D S fields ≤ levels
      → Goes (suc (height D S fields)) (Under D P fields) (note fields then walk_parts D P found s lower (P.parts fields))
  unfolding note after
  goes_note levels lower good fields at le z sure =
      meets_weaken (λ y. All (InParts (P.parts fields)) y.entries × Kept (noted fields z) y) _ Shallow
      (walk_parts D P found s lower (P.parts fields) (noted fields z))
      (λ y f. ((λ c a b u. f.0 c a b (in_parts fields c a b u)), kept_note fields z y (λ c a b u. f.0 c a b (in_parts fields c a b u)) f.1))
      (goes_parts levels lower good (height D S fields) le (P.parts fields) (λ part m a i. at a (L.part_in fields part a m i))
      (part_low fields) (noted fields z) (sure_note fields z sure))

  goes_meet : (budget levels : ℕ) (lower : List ℕ → Step) → Good levels lower → (fields : List ℕ) → Every (FieldAt D At) fields
      → height D S fields ≤ levels → (isOld : Bool) (z : State) → (T isOld → fields ∈ z.known) → Sure (suc (height D S fields)) z
      → Meets (λ y. Done y.entries fields × Kept z y) Shallow (meet budget fields (walk_parts D P found s lower (P.parts fields)) isOld z)
  unfolding meet enter after
  goes_meet budget levels lower good fields at le true z is_in sure =
      meets_after (λ y. All Nothing y.entries × Kept z y) _ Shallow (charge budget (cost_of true fields) z) finished
      (goes_charge budget (cost_of true fields) _ z sure)
      (λ y f. ((λ c a b u. f.1.1 (entry s c a b) (known_done fields z sure (is_in tt) c a b u)), f.1))
  goes_meet budget levels lower good fields at le false z is_in sure =
      goes_weaken _ _ (Under D P fields) (charge budget (cost_of false fields) then note fields then walk_parts D P found s lower (P.parts fields))
      (λ c a b u. inr u)
      (goes_then _ Nothing (Under D P fields) (charge budget (cost_of false fields)) _ (goes_charge budget (cost_of false fields) _)
      (goes_note levels lower good fields at le)) z sure

  good_walk : (budget levels : ℕ) → Good levels (walk D P found s budget levels)
  unfolding walk
  good_walk budget zero sets at enough z sure = not-suc-le-zero enough
  good_walk budget (suc levels) sets at enough z sure =
      goes_meet budget levels (walk D P found s budget levels) (good_walk budget levels) (expand D sets) (expand_at D S sets at)
      (le_of_suc-le-suc enough) (is_known (expand D sets) z.known) z (is_known→in (expand D sets) z.known) sure

  -- a pass of an operation; it is given levels enough
  pub pass_done : (budget : ℕ) → At s → (z : State)
      → Meets (λ y. Done y.entries (expand D (s ∷ [])) × Grown Left z.entries y.entries) Shallow (pass D found budget P s z)
  unfolding pass
  pass_done budget at z =
      meets_weaken (λ y. Done y.entries (expand D (s ∷ [])) × Kept (fresh z) y) _ Shallow (walk D P found s budget (suc D.limit) (s ∷ []) (fresh z))
      (λ y f. (f.0, f.1.1))
      (good_walk budget (suc D.limit) (s ∷ []) (only At at)
      (suc-le-suc (height_limit D S (expand D (s ∷ [])) (expand_at D S (s ∷ []) (only At at)))) (fresh z) (λ l m. absurd (not_in_nil m)))
