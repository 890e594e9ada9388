-- The rule depends neither on the order of rows inside sets nor on how rows and sets are numbered. Assumes `Sound`.
use mathlib.Core.Path.{◌≡◌, sym, ◌∙◌, ap, ap₂, subst}
use mathlib.Core.Logic.{◌↔◌, ⊎_elim}
use mathlib.Core.Bool.{Bool, not}
use mathlib.Core.List.{List, [], ◌∷◌}
use Prim.Native.Nat.{ℕ}
use lib.Dec.{T}
use Rattle.merge_theory.specs.Document.{Document, is_field, set_of, Sound, FieldAt, field_at}
use Rattle.merge_theory.specs.Expand.{Within, itself, through, FieldIn, field_of}
use Rattle.merge_theory.specs.Lists.{◌∈◌, here, there, Every}
use Rattle.merge_theory.specs.Reordered.{Reordered}
use Rattle.merge_theory.specs.Rule.{SameResponse, Overlap, one_parent, first_abstract, second_abstract, merged, ShapeFails, types_disagree, subshapes_fail, MergeFails, shapes_fail, names_differ, arguments_differ, subfields_fail, Reached, start, onward, RuleHolds}
use Rattle.merge_theory.proofs.ExpandLaws.{within_at, field_in_at, field_sets_at}
use Rattle.merge_theory.proofs.Levels.{merged_cases, merged_left, merged_right, merged_at, reached_at}
use Rattle.merge_theory.proofs.ListLaws.{not_in_nil, in_map, from_map, only}

-- D's rows and sets at hand have their like in D': each row stands, somewhere, in the like of its set
pub record Embeds (D D' : Document) (At : ℕ → Type 0) : Type 0 where
  pub row : ℕ → ℕ
  pub set : ℕ → ℕ
  pub stands : {s r : ℕ} → At s → r ∈ D.rows_of s → row r ∈ D'.rows_of (set s)
  pub leads : {s r t : ℕ} → At s → r ∈ D.rows_of s → t ∈ set_of D r → set t ∈ set_of D' (row r)
  pub kinds : {s r : ℕ} → At s → r ∈ D.rows_of s → D.kind_of r ≡ D'.kind_of (row r)
  pub responses : {r : ℕ} → FieldAt D At r → D.name_of r ≡ D'.name_of (row r)
  pub parents : {r : ℕ} → FieldAt D At r → D.parent_of r ≡ D'.parent_of (row r)
  pub objects : {r : ℕ} → FieldAt D At r → D.is_object (D.parent_of r) ≡ D'.is_object (D'.parent_of (row r))
  pub types : {a b : ℕ} → FieldAt D At a → FieldAt D At b → D.types_agree a b ≡ D'.types_agree (row a) (row b)
  pub names : {a b : ℕ} → FieldAt D At a → FieldAt D At b → D.same_name a b ≡ D'.same_name (row a) (row b)
  pub arguments : {a b : ℕ} → FieldAt D At a → FieldAt D At b → D.same_arguments a b ≡ D'.same_arguments (row a) (row b)

module _ (D D' : Document) {At : ℕ → Type 0} (S : Sound D At) (E : Embeds D D' At) where
  to_within : {s t : ℕ} → At s → Within D s t → Within D' (E.set s) (E.set t)
  to_within at itself = itself
  to_within at (through w i f j) =
      let at' = within_at D S at w in
      through (to_within at w) (E.stands at' i) (subst (λ k. T (not (is_field k))) (E.kinds at' i) f) (E.leads at' i j)

  to_field : {sets sets' : List ℕ} {f : ℕ} → Every At sets → ((s : ℕ) → s ∈ sets → E.set s ∈ sets') → FieldIn D sets f → FieldIn D' sets' (E.row f)
  to_field all go (field_of {s = s} m w i is) =
      let at = within_at D S (all s m) w in
      field_of (go s m) (to_within (all s m) w) (E.stands at i) (subst (λ k. T (is_field k)) (E.kinds at i) is)

  to_one : {s f : ℕ} → At s → FieldIn D (s ∷ []) f → FieldIn D' (E.set s ∷ []) (E.row f)
  to_one {s} at h = to_field (only At at) like h
    where
      like : (t : ℕ) → t ∈ (s ∷ []) → E.set t ∈ (E.set s ∷ [])
      like t (here e) = here (ap E.set e)
      like t (there m) = absurd (not_in_nil m)

  to_set : {a f : ℕ} → FieldAt D At a → FieldIn D (set_of D a) f → FieldIn D' (set_of D' (E.row a)) (E.row f)
  to_set {a} at h = to_field (field_sets_at D S at) (λ s m. like at m) h
    where
      like : {s : ℕ} → FieldAt D At a → s ∈ set_of D a → E.set s ∈ set_of D' (E.row a)
      like (field_at at i is) m = E.leads at i m

  to_merged : {a b f : ℕ} → FieldAt D At a → FieldAt D At b → FieldIn D (merged D a b) f → FieldIn D' (merged D' (E.row a) (E.row b)) (E.row f)
  to_merged {a} {b} i j h =
      ⊎_elim (λ l. merged_left D' (E.row a) (E.row b) (to_set i l)) (λ r. merged_right D' (E.row a) (E.row b) (to_set j r)) (merged_cases D a b h)

  to_response : {a b : ℕ} → FieldAt D At a → FieldAt D At b → SameResponse D a b → SameResponse D' (E.row a) (E.row b)
  to_response i j e = sym (E.responses i) ∙ e ∙ E.responses j

  to_overlap : {a b : ℕ} → FieldAt D At a → FieldAt D At b → Overlap D a b → Overlap D' (E.row a) (E.row b)
  to_overlap i j (one_parent e) = one_parent (sym (E.parents i) ∙ e ∙ E.parents j)
  to_overlap i j (first_abstract t) = first_abstract (subst (λ b. T (not b)) (E.objects i) t)
  to_overlap i j (second_abstract t) = second_abstract (subst (λ b. T (not b)) (E.objects j) t)

  to_shape : {a b : ℕ} → FieldAt D At a → FieldAt D At b → ShapeFails D a b → ShapeFails D' (E.row a) (E.row b)
  to_shape i j (types_disagree t) = types_disagree (subst (λ x. T (not x)) (E.types i j) t)
  to_shape i j (subshapes_fail k l e bad) =
      let k' = field_in_at D S (merged_at D S i j) k in
      let l' = field_in_at D S (merged_at D S i j) l in
      subshapes_fail (to_merged i j k) (to_merged i j l) (to_response k' l' e) (to_shape k' l' bad)

  -- what fails in D fails in D', for sets whose fields have their like there
  to_merge : {sets : List ℕ} → Every At sets → MergeFails D sets → (sets' : List ℕ) → ((f : ℕ) → FieldIn D sets f → FieldIn D' sets' (E.row f))
      → MergeFails D' sets'
  to_merge all (shapes_fail i j e bad) sets' go =
      let i' = field_in_at D S all i in
      let j' = field_in_at D S all j in
      shapes_fail (go _ i) (go _ j) (to_response i' j' e) (to_shape i' j' bad)
  to_merge all (names_differ {a = a} {b = b} i j e o t) sets' go =
      let i' = field_in_at D S all i in
      let j' = field_in_at D S all j in
      names_differ (go a i) (go b j) (to_response i' j' e) (to_overlap i' j' o) (subst (λ x. T (not x)) (E.names i' j') t)
  to_merge all (arguments_differ {a = a} {b = b} i j e o t) sets' go =
      let i' = field_in_at D S all i in
      let j' = field_in_at D S all j in
      arguments_differ (go a i) (go b j) (to_response i' j' e) (to_overlap i' j' o) (subst (λ x. T (not x)) (E.arguments i' j') t)
  to_merge all (subfields_fail {a = a} {b = b} i j e o bad) sets' go =
      let i' = field_in_at D S all i in
      let j' = field_in_at D S all j in
      subfields_fail (go a i) (go b j) (to_response i' j' e) (to_overlap i' j' o)
      (to_merge (merged_at D S i' j') bad (merged D' (E.row a) (E.row b)) (λ f h. to_merged i' j' h))

  to_reached : {s t : ℕ} → At s → Reached D s t → Reached D' (E.set s) (E.set t)
  to_reached at start = start
  to_reached at (onward q i j) = let at' = reached_at D S at q in onward (to_reached at q) (E.stands at' i) (E.leads at' i j)

  pub embedded_rule : {s : ℕ} → At s → RuleHolds D' (E.set s) → RuleHolds D s
  embedded_rule at rule t r bad =
      let at' = reached_at D S at r in
      rule (E.set t) (to_reached at r) (to_merge (only At at') bad (E.set t ∷ []) (λ f h. to_one at' h))

module _ (D D' : Document) {At At' : ℕ → Type 0} (R : Reordered D D' At At') where
  unfoldable pub forth : Embeds D D' At
  forth = record {
    row = R.row;
    set = R.set;
    stands = R.stands;
    leads = λ {s} {r} {t} at i m. subst (λ (l : List ℕ). R.set t ∈ l) (sym (R.links at i)) (in_map R.set m);
    kinds = R.kinds;
    responses = R.responses;
    parents = R.parents;
    objects = R.objects;
    types = R.types;
    names = R.names;
    arguments = R.arguments;
  }

  -- a row of D' at hand is the like of one of D
  pub was : {s r : ℕ} → At' s → r ∈ D'.rows_of s → (R.row_back r ∈ D.rows_of (R.set_back s)) × (R.row (R.row_back r) ≡ r)
  was {s} {r} at i = R.stood (R.set_back_at at) (subst (λ t. r ∈ D'.rows_of t) (sym (R.set_back_round at)) i)

  pub was_kind : {s r : ℕ} → At' s → r ∈ D'.rows_of s → D'.kind_of r ≡ D.kind_of (R.row_back r)
  was_kind at i = let (j, e) = was at i in ap D'.kind_of (sym e) ∙ sym (R.kinds (R.set_back_at at) j)

  pub was_field : {r : ℕ} → FieldAt D' At' r → FieldAt D At (R.row_back r) × (R.row (R.row_back r) ≡ r)
  was_field (field_at at i is) =
      let (j, e) = was at i in
      (field_at (R.set_back_at at) j (subst (λ k. T (is_field k)) (was_kind at i) is), e)

  -- the set that it leads to is the like of one that it led to
  pub was_link : {s r t : ℕ} → At' s → r ∈ D'.rows_of s → t ∈ set_of D' r → (R.set_back t ∈ set_of D (R.row_back r)) × (R.set (R.set_back t) ≡ t)
  was_link {r = r} {t = t} at i m =
      let (j, e) = was at i in
      let (u, k, q) = from_map R.set (set_of D (R.row_back r)) (subst (λ (l : List ℕ). t ∈ l) (R.links (R.set_back_at at) j) (subst (λ x. t ∈ set_of D' x) (sym e) m)) in
      let back : u ≡ R.set_back t = sym (R.set_round (R.closed (R.set_back_at at) j k)) ∙ ap R.set_back (sym q) in
      (subst (λ x. x ∈ set_of D (R.row_back r)) back k, ap R.set (sym back) ∙ sym q)

  -- a row of D' that is a field at hand, and what it was
  abbrev pub Was : ℕ → Type 0
  Was r = FieldAt D At (R.row_back r) × (R.row (R.row_back r) ≡ r)

  -- a comparison that goes forth goes back
  pub compared : (same same' : ℕ → ℕ → Bool) {a b : ℕ} → Was a → Was b
      → ((c d : ℕ) → FieldAt D At c → FieldAt D At d → same c d ≡ same' (R.row c) (R.row d)) → same' a b ≡ same (R.row_back a) (R.row_back b)
  compared same same' {a} {b} (i, e) (j, f) h = ap₂ same' (sym e) (sym f) ∙ sym (h (R.row_back a) (R.row_back b) i j)

  unfoldable pub back : Embeds D' D At'
  back = record {
    row = R.row_back;
    set = R.set_back;
    stands = λ at i. (was at i).0;
    leads = λ at i m. (was_link at i m).0;
    kinds = was_kind;
    responses = λ i. let (j, e) = was_field i in ap D'.name_of (sym e) ∙ sym (R.responses j);
    parents = λ i. let (j, e) = was_field i in ap D'.parent_of (sym e) ∙ sym (R.parents j);
    objects = λ i. let (j, e) = was_field i in ap (λ r. D'.is_object (D'.parent_of r)) (sym e) ∙ sym (R.objects j);
    types = λ i j. compared D.types_agree D'.types_agree (was_field i) (was_field j) (λ a b i j. R.types i j);
    names = λ i j. compared D.same_name D'.same_name (was_field i) (was_field j) (λ a b i j. R.names i j);
    arguments = λ i j. compared D.same_arguments D'.same_arguments (was_field i) (was_field j) (λ a b i j. R.arguments i j);
  }

-- the rule holds of both or of neither
pub reordered_rule : (D D' : Document) {At At' : ℕ → Type 0} (S : Sound D At) (S' : Sound D' At') (R : Reordered D D' At At') {s : ℕ} → At s
    → RuleHolds D s ↔ RuleHolds D' (R.set s)
unfolding back forth
reordered_rule D D' S S' R at = (
  λ rule. embedded_rule D' D S' (back D D' R) (R.set_at at) (subst (RuleHolds D) (sym (R.set_round at)) rule),
  λ rule. embedded_rule D D' S (forth D D' R) at rule,
)
