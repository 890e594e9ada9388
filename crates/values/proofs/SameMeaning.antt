-- `same_value` and `same_arguments` are the specification's identity: what they find the same is identical, and in an image without
-- fault what is identical they find the same.
-- Assumes nothing.
use Prim.Native.Nat.{ℕ, zero, suc, ◌<◌}
use mathlib.Core.Path.{◌≡◌, sym, ◌∙◌, subst}
use mathlib.Core.Logic.{◌↔◌}
use mathlib.Core.Bool.{Bool, true, false≢true}
use mathlib.Core.List.{List}
use native.Mathlib.Omega.{arith}
use borrow.Author.Tests.{eq-eqb, eqb-true}
use Rattle.tables.specs.declared.Range.{Range}
use Rattle.tables.specs.Layout.{arguments, values}
use Rattle.tables.specs.Image.{count_at, row_in}
use Rattle.tables.specs.Columns.{argument_name, value_kind, value_key, value_atom, value_members}
use Rattle.tables.specs.Keys.{key_of}
use Rattle.tables.specs.Numbering.{deepest_level}
use Rattle.tables.specs.Good.{Good}
use Rattle.values.specs.Same.{place_of, same_set, same_by, same_value, same_arguments}
use Rattle.values.specs.Identical.{Paired, Identical, atoms, lists, objects, IdenticalArguments}
use Rattle.values.specs.Fields.{ArgumentRange}
use Rattle.tables.proofs.ColumnLaws.{member_key, argument_key}
use Rattle.values.proofs.SameCases.{by_lists, by_objects, by_atoms, list_same}
use Rattle.values.proofs.ListLaws.{one_length, members_same}
use Rattle.values.proofs.SetLaws.{DistinctIn, SameSet, set_holds, holds_set, found_key, found_below, found_at}
use Rattle.values.proofs.ValueLaws.{Form, a_list, an_object, an_atom, form, like_kinds, Fits, no_level, members_fit, member_keys_distinct}
use Rattle.values.proofs.FieldLaws.{argument_fits, fit_in, names_distinct}

-- ---- sets: partners are where a key is found

module _ (key name : ℕ → ℕ) (is_name : (r : ℕ) → key r ≡ name r) (one other : Range) where
  pairs : ((k : ℕ) → k < one.count → place_of key other (key (row_in one k)) < other.count) → Paired name one other (λ k. place_of key other (key (row_in one k)))
  pairs found = record {
    there = found;
    one_key = λ k l. sym (is_name _) ∙ found_key key other _ (found k l) ∙ is_name _;
  }

  module _ (partner : ℕ → ℕ) (paired : Paired name one other partner) where
    partner_key : (k : ℕ) → k < one.count → key (row_in other (partner k)) ≡ key (row_in one k)
    partner_key k l = is_name _ ∙ paired.one_key k l ∙ sym (is_name _)

    place_below : (k : ℕ) → k < one.count → place_of key other (key (row_in one k)) < other.count
    place_below k l = found_below key other _ (partner k) (paired.there k l) (partner_key k l)

    place_is : DistinctIn key other → (k : ℕ) → k < one.count → place_of key other (key (row_in one k)) ≡ partner k
    place_is distinct k l = found_at key other _ distinct (partner k) (paired.there k l) (partner_key k l)

-- the same set, from partners on both sides
paired_set : (key name : ℕ → ℕ) → ((r : ℕ) → key r ≡ name r) → (same : ℕ → ℕ → Bool) (left right : Range) (to back : ℕ → ℕ)
    → Paired name left right to → Paired name right left back → DistinctIn key right
    → ((k : ℕ) → k < left.count → same (row_in left k) (row_in right (to k)) ≡ true) → same_set key same left right ≡ true
paired_set key name is_name same left right to back p q distinct alike =
    holds_set key same left right
    (record {
      found = place_below key name is_name left right to p;
      alike = λ k l. subst (λ (j : ℕ). same (row_in left k) (row_in right j) ≡ true) (sym (place_is key name is_name left right to p distinct k l)) (alike k l);
      covered = place_below key name is_name right left back q;
    })

-- ---- values

module _ (image : List ℕ) where
  by_identical : (same : ℕ → ℕ → Bool) (l r : ℕ) → ((a b : ℕ) → same a b ≡ true → Identical image a b) → same_by image same l r ≡ true → Identical image l r
  by_identical same l r deeper e = go (like_kinds image same l r e) (form (value_kind image l))
    where
      ours : Range
      ours = value_members image l

      theirs : Range
      theirs = value_members image r

      go : value_kind image l ≡ value_kind image r → Form (value_kind image l) → Identical image l r
      go like (a_list p) =
          let h = sym (by_lists image same l r like p) ∙ e in
          lists p (sym like ∙ p) (one_length same ours theirs h) (λ k lk. deeper _ _ (members_same same ours theirs h k lk))
      go like (an_object p) =
          let s : SameSet (key_of image values) same ours theirs = set_holds (key_of image values) same ours theirs (sym (by_objects image same l r like p) ∙ e) in
          objects p (sym like ∙ p) _ _ (pairs (key_of image values) (value_key image) (member_key image) ours theirs s.found)
          (pairs (key_of image values) (value_key image) (member_key image) theirs ours s.covered) (λ k lk. deeper _ _ (s.alike k lk))
      go like (an_atom n m) = atoms like n m (eqb-true _ _ (sym (by_atoms image same l r like n m) ∙ e))

  -- in any image
  pub same_identical : (n l r : ℕ) → same_value image n l r ≡ true → Identical image l r
  unfolding same_value
  same_identical zero l r e = absurd (false≢true e)
  same_identical (suc n) l r e = by_identical (same_value image n) l r (same_identical n) e

  module _ (good : Good image) where
    identical_by : (n l r : ℕ) → Fits image (suc n) l → Fits image (suc n) r
        → ((a b : ℕ) → Fits image n a → Fits image n b → Identical image a b → same_value image n a b ≡ true)
        → Identical image l r → same_by image (same_value image n) l r ≡ true
    identical_by n l r f g deeper (atoms like no-list no_object e) =
        by_atoms image (same_value image n) l r like no-list no_object ∙ eq-eqb (value_atom image l) (value_atom image r) e
    identical_by n l r f g deeper (lists p q e alike) =
        by_lists image (same_value image n) l r (p ∙ sym q) p
        ∙ list_same (same_value image n) (value_members image l) (value_members image r) e
        (λ k lk. deeper _ _ (members_fit image good n l f (omega arith) k lk) (members_fit image good n r g (omega arith) k (omega arith)) (alike k lk))
    identical_by n l r f g deeper (objects p q to back forth return alike) =
        by_objects image (same_value image n) l r (p ∙ sym q) p
        ∙ paired_set (key_of image values) (value_key image) (member_key image) (same_value image n) (value_members image l) (value_members image r) to back forth return
        (member_keys_distinct image good r g.row q)
        (λ k lk. deeper _ _ (members_fit image good n l f (omega arith) k lk) (members_fit image good n r g (omega arith) (to k) (forth.there k lk)) (alike k lk))

    pub identical_same : (n l r : ℕ) → Fits image n l → Fits image n r → Identical image l r → same_value image n l r ≡ true
    unfolding same_value
    identical_same zero l r f g i = no_level image good l f
    identical_same (suc n) l r f g i = identical_by n l r f g (identical_same n) i

    -- ---- exactly if

    pub value_decides : (a b : ℕ) → a < count_at image arguments → b < count_at image arguments → (same_value image deepest_level a b ≡ true) ↔ Identical image a b
    value_decides a b i j =
        (same_identical deepest_level a b, identical_same deepest_level a b (argument_fits image good a i) (argument_fits image good b j))

    pub arguments_decide : (left right : Range) → ArgumentRange image left → ArgumentRange image right
        → (same_arguments image left right ≡ true) ↔ IdenticalArguments image left right
    unfolding same_arguments
    arguments_decide left right i j = (forth, back)
      where
        forth : same_set (key_of image arguments) (same_value image deepest_level) left right ≡ true → IdenticalArguments image left right
        forth e =
            let s : SameSet (key_of image arguments) (same_value image deepest_level) left right = set_holds (key_of image arguments) (same_value image deepest_level) left right e in
            record {
              to = λ k. place_of (key_of image arguments) right (key_of image arguments (row_in left k));
              back = λ k. place_of (key_of image arguments) left (key_of image arguments (row_in right k));
              forth_paired = pairs (key_of image arguments) (argument_name image) (argument_key image) left right s.found;
              back_paired = pairs (key_of image arguments) (argument_name image) (argument_key image) right left s.covered;
              values = λ k l. same_identical deepest_level _ _ (s.alike k l);
            }

        back : IdenticalArguments image left right → same_set (key_of image arguments) (same_value image deepest_level) left right ≡ true
        back h =
            paired_set (key_of image arguments) (argument_name image) (argument_key image) (same_value image deepest_level) left right h.to h.back
            h.forth_paired h.back_paired (names_distinct image good right j)
            (λ k l. identical_same deepest_level _ _ (fit_in image good left i k l) (fit_in image good right j (h.to k) (h.forth_paired.there k l)) (h.values k l))
