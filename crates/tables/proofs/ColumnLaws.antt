-- Laws of the columns for the crates above, which unfold nothing of this one: keys by table, kinds of types, where a selection leads,
-- which of them own a set, and what stands in a set.
-- Assumes nothing.
use Prim.Native.Nat.{ℕ, zero, suc, ◌+◌, ◌<◌, ◌≤◌}
use mathlib.Core.Path.{◌≡◌, refl, sym, ◌∙◌}
use mathlib.Core.Logic.{◌⊎◌, inl, inr}
use mathlib.Core.Bool.{Bool, true, false, cond, not, ◌&&◌, ◌||◌, false≢true}
use mathlib.Core.List.{List}
use native.Mathlib.Omega.{arith}
use borrow.Author.Tests.{le-leb, lt-leb, lt-ltb, eq-eqb, ne_eqb, eqb-true, eqb-false}
use lib.Dec.{eqb, leb}
use Rattle.std.specs.Prelude.{Some, None}
use Rattle.std.proofs.lemmas.Option.{none-some, same_Some}
use Rattle.lists.specs.Every.{total}
use Rattle.lists.proofs.Tests.{both, second_fails}
use Rattle.lists.proofs.EveryLaws.{total_more}
use Rattle.tables.specs.Layout.{NONE, operations, fragments, sets, arguments, values}
use Rattle.tables.specs.Image.{count_at}
use Rattle.tables.specs.Columns.{is_composite, argument_name, value_key, field, spread, inline, selection_kind, selection_target, selection_at, set_selections, set_below, set_or_none, fragment_set, is_fragment_set}
use Rattle.tables.specs.Keys.{key_of}
use Rattle.tables.specs.Numbering.{set_start, set_end, owns_set, owned, next_set}
use Rattle.tables.specs.Good.{Good, StandsIn}

-- a word names a set where it is not NONE
pub set_named : {word set : ℕ} → Some set ≡ set_or_none word → (word ≡ set) × (word ≡ NONE → ⊥)
set_named {word} {set} e = go (eqb word NONE) refl e
  where
    go : (b : Bool) → eqb word NONE ≡ b → Some set ≡ cond b None (Some word) → (word ≡ set) × (word ≡ NONE → ⊥)
    go true t e = absurd (none-some set (sym e))
    go false t e = (same_Some word set (sym e), λ same. absurd (false≢true (sym t ∙ eq-eqb _ _ same)))

pub none_named : {word : ℕ} → None ≡ set_or_none word → word ≡ NONE
none_named {word} e = go (eqb word NONE) refl e
  where
    go : (b : Bool) → eqb word NONE ≡ b → None ≡ cond b None (Some word) → word ≡ NONE
    go true t e = eqb-true _ _ t
    go false t e = absurd (none-some word e)

-- the key of an argument is its name, that of a member its key
pub argument_key : (image : List ℕ) (r : ℕ) → key_of image arguments r ≡ argument_name image r
unfolding key_of
argument_key image r = refl

pub member_key : (image : List ℕ) (r : ℕ) → key_of image values r ≡ value_key image r
unfolding key_of
member_key image r = refl

-- composites are the kinds 1 to 3
pub a_composite : (kind : ℕ) → 1 ≤ kind → kind < 4 → is_composite kind ≡ true
unfolding is_composite
a_composite kind low high = rw (le-leb 1 kind low, le-leb kind 3 (omega arith))

pub below_composites : (kind : ℕ) → kind < 1 → is_composite kind ≡ false
unfolding is_composite
below_composites kind h = rw (lt-leb 1 kind h)

pub above_composites : (kind : ℕ) → 4 ≤ kind → is_composite kind ≡ false
unfolding is_composite
above_composites kind h = second_fails (leb 1 kind) (lt-leb kind 3 (omega arith))

-- a spread leads to its fragment's set, any other selection to its own, or to none
pub below_spread : (image : List ℕ) (r : ℕ) → selection_kind image r ≡ spread → set_below image (selection_at image r) ≡ fragment_set image (selection_target image r)
unfolding set_below
below_spread image r e = rw (eq-eqb _ _ e)

pub below_own : (image : List ℕ) (r : ℕ) → (selection_kind image r ≡ spread → ⊥) → set_below image (selection_at image r) ≡ selection_target image r
unfolding set_below
below_own image r ne = rw (ne_eqb _ _ ne)

pub is_fragment_set_lem : {image : List ℕ} → Good image → (f : ℕ) → f < count_at image fragments → is_fragment_set image (fragment_set image f) ≡ true
unfolding is_fragment_set
is_fragment_set_lem {image} good f h =
    let e = (good.fragment f h).set_number in
    let from : count_at image operations ≤ fragment_set image f = omega arith in
    let to : fragment_set image f < count_at image operations + count_at image fragments = omega arith in
    both (le-leb _ _ from) (lt-ltb _ _ to)

-- inlines own a set, and fields whose target is one
pub inline_owns : (image : List ℕ) (r : ℕ) → selection_kind image r ≡ inline → owns_set (selection_at image r) ≡ true
unfolding owns_set
inline_owns image r e = rw e

pub field_owns : (image : List ℕ) (r : ℕ) → selection_kind image r ≡ field → (selection_target image r ≡ NONE → ⊥) → owns_set (selection_at image r) ≡ true
unfolding owns_set
field_owns image r e owns = rw (e, ne_eqb _ _ owns)

pub owners : (image : List ℕ) (r : ℕ) → owns_set (selection_at image r) ≡ true → (selection_kind image r ≡ inline) ⊎ ((selection_kind image r ≡ field) × (selection_target image r ≡ NONE → ⊥))
unfolding owns_set
owners image r e = go (eqb (selection_kind image r) inline) (eqb (selection_kind image r) field) (eqb (selection_target image r) NONE) refl refl refl e
  where
    go : (a b c : Bool) → eqb (selection_kind image r) inline ≡ a → eqb (selection_kind image r) field ≡ b → eqb (selection_target image r) NONE ≡ c → (a || (b && not c)) ≡ true
        → (selection_kind image r ≡ inline) ⊎ ((selection_kind image r ≡ field) × (selection_target image r ≡ NONE → ⊥))
    go true b c i f n e = inl (eqb-true _ _ i)
    go false true false i f n e = inr (eqb-true _ _ f, eqb-false _ _ n)
    go false true true i f n e = absurd (false≢true e)
    go false false c i f n e = absurd (false≢true e)

-- the number of the next set that a selection owns
pub next_set_first : (image : List ℕ) → next_set image 0 ≡ count_at image operations + count_at image fragments
unfolding next_set total
next_set_first image = refl

pub next_set_more : (image : List ℕ) (r : ℕ) → next_set image (r + 1) ≡ next_set image r + cond (owns_set (selection_at image r)) 1 0
unfolding next_set
next_set_more image r = total_more _ (owned image) r

-- each row takes one number at most
owned_few : (image : List ℕ) (r : ℕ) → owned image r ≤ 1
owned_few image r = go (owns_set (selection_at image r))
  where
    go : (b : Bool) → cond b 1 0 ≤ 1
    go true = omega arith
    go false = omega arith

pub next_set_most : (image : List ℕ) (r : ℕ) → next_set image r ≤ count_at image operations + count_at image fragments + r
unfolding next_set total
next_set_most image zero = omega arith
next_set_most image (suc r) = omega (arith, next_set_most image r, owned_few image r)

-- the rows of a set stand in it
pub stands : {image : List ℕ} {r s : ℕ} → s < count_at image sets → (set_selections image s).first ≤ r → r < (set_selections image s).first + (set_selections image s).count → StandsIn image r s
unfolding set_end
stands known from below = record { known = known; from = from; below = below }

pub stands_below : {image : List ℕ} {r s : ℕ} → StandsIn image r s → r < (set_selections image s).first + (set_selections image s).count
unfolding set_end
stands_below i = i.below

pub set_start_none : (image : List ℕ) → set_start image 0 ≡ 0
unfolding set_start
set_start_none image = refl

pub set_start_next : (image : List ℕ) (s : ℕ) → set_start image (suc s) ≡ (set_selections image s).first + (set_selections image s).count
unfolding set_start set_end
set_start_next image s = refl
