-- Laws of tests: what a passed conjunction, a passed alternative and two unlike constructors say. Assumes nothing.
use mathlib.Core.Path.{◌≡◌, refl}
use mathlib.Core.Bool.{Bool, true, false, not, ◌&&◌, ◌||◌, false≢true}

pub both : {a b : Bool} → a ≡ true → b ≡ true → (a && b) ≡ true
both ha hb = rw (ha, hb) refl

pub first_of : (a b : Bool) → (a && b) ≡ true → a ≡ true
first_of true b e = refl
first_of false b e = absurd (false≢true e)

pub second_of : (a b : Bool) → (a && b) ≡ true → b ≡ true
second_of true b e = e
second_of false b e = absurd (false≢true e)

-- three and four tests in a row
pub all_three : (a b c : Bool) → (a && b && c) ≡ true → (a ≡ true) × (b ≡ true) × (c ≡ true)
all_three a b c e =
    let front = first_of (a && b) c e in
    (first_of a b front, second_of a b front, second_of (a && b) c e)

pub all_four : (a b c d : Bool) → (a && b && c && d) ≡ true → (a ≡ true) × (b ≡ true) × (c ≡ true) × (d ≡ true)
all_four a b c d e =
    let front = all_three a b c (first_of (a && b && c) d e) in
    (front.0, front.1, front.2, second_of (a && b && c) d e)

-- one failure is enough
pub first_fails : {a : Bool} (b : Bool) → a ≡ false → (a && b) ≡ false
first_fails b e = rw e

pub second_fails : (a : Bool) {b : Bool} → b ≡ false → (a && b) ≡ false
second_fails true e = e
second_fails false e = refl

-- the second of two alternatives, where the first fails
pub other_of : {a b : Bool} → a ≡ false → (a || b) ≡ true → b ≡ true
other_of f e = rw f at e

pub not_true : (a : Bool) → a ≡ true → not a ≡ false
not_true a e = rw e

pub not_false : (a : Bool) → not a ≡ false → a ≡ true
not_false true e = refl
not_false false e = absurd (false≢true (rw e refl))

pub not_is_true : (a : Bool) → not a ≡ true → a ≡ false
not_is_true true e = absurd (false≢true e)
not_is_true false e = refl
