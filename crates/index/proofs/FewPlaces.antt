-- No search is long, whatever the keys are: each step uses up a bit. Assumes nothing.
use mathlib.Core.Path.{◌≡◌, sym, ◌∙◌}
use mathlib.Core.List.{List}
use Prim.Native.Nat.{ℕ, ◌+◌, ◌≤◌, ◌<◌}
use native.Mathlib.Omega.{arith}
use native.Mathlib.Decide.{dec_le}
use Rattle.index.specs.declared.Index.{Index}
use Rattle.index.specs.Indexed.{key_at, Finds, here, deeper, nowhere, passed, Level, Linked, Indexed}
use Rattle.index.proofs.SearchLaws.{level_top, level_down, same_number, word_halved}

module _ {s : List ℕ} {index : Index} {n : ℕ} (l : Linked s index n) (words : (p : ℕ) → p < index.count → key_at s index p < 4294967296)
    (key : ℕ) (word : key < 4294967296) where
  -- after 32 bits the keys are one
  early_yet : {p bits : ℕ} → p < index.count → Level s index l.depth key p bits → l.depth p ≤ 32 → (key_at s index p ≡ key → ⊥) → l.depth p < 32
  early_yet {p} h v few ne = elim (dec_le 32 (l.depth p)) [
    | yes d ↦
        let last : l.depth p ≡ 32 = omega arith in
        absurd (ne (same_number 32 (key_at s index p) key (rw last at v.shared) (word_halved (key_at s index p) (words p h) ∙ sym (word_halved key word))))
    | no d ↦ omega arith
  ]

  passes_on : {r p bits : ℕ} → p < index.count → Level s index l.depth key p bits → l.depth p ≤ 32 → (f : Finds s index key r p bits) → passed f + l.depth p ≤ 33
  unfolding passed
  passes_on h v few (here k e) = omega arith
  passes_on h v few (nowhere ne le e) = omega arith
  passes_on {p = p} {bits = bits} h v few (deeper ne lt inside f) =
      let d = l.down p bits h lt in
      let early = early_yet h v few ne in
      let level = d.level in
      let rest = passes_on inside (level_down v d) (omega arith) f in
      omega arith

-- a search passes 33 places at most, whatever the keys are
pub few_places : {s : List ℕ} {index : Index} → Indexed s index → 0 < index.count → ((p : ℕ) → p < index.count → key_at s index p < 4294967296)
    → {key r : ℕ} → key < 4294967296 → (f : Finds s index key r 0 key) → passed f ≤ 33
few_places i some words {key} word f =
    let l = i.linked some in
    let top = l.top in
    let all = passes_on l words key word some (level_top key top) (omega arith) f in
    omega arith
