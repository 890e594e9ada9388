-- The loop over the parts of a list, in either pass. Assumes nothing.
use mathlib.Core.Path.{◌≡◌, refl}
use mathlib.Core.Logic.{⊎_elim}
use mathlib.Core.Bool.{Bool, true, false}
use mathlib.Core.List.{List}
use Prim.Native.Nat.{ℕ, suc, ◌+◌, ◌-◌, ◌*◌, ◌≤◌, ◌<◌}
use native.Mathlib.Omega.{arith}
use Rattle.merge_theory.specs.Document.{Document}
use Rattle.selection.specs.declared.arena.Arena.{Arena}
use Rattle.selection.specs.declared.arena.Walk as states
use Rattle.lists.specs.declared.Span.{Span}
use Rattle.selection.specs.declared.groups.Part.{Part}
use Rattle.selection.specs.declared.groups.Cursor.{Cursor}
use Rattle.selection.specs.Grouping.{part_in}
use Rattle.selection.specs.Following.{FirstPart, NextPart}
use Rattle.selection.specs.Refining.{document, Ample, WalksList}
use Rattle.selection.proofs.PartLaws.{Opened, Along, subgroups_after, groups_from}
use Rattle.selection.proofs.LoopLaws.{Stepped, PassLoop}
use Rattle.selection.proofs.ShapeLaws.{AlongGroups, shape_first, shape_turn, shape_found, shape_end}
use Rattle.selection.proofs.ParentLaws.{parent_first, parent_turn, parent_found, parent_end}

-- the measure of the loop: groups, then the places in one
abbrev pub to_go : ℕ → Cursor → ℕ
to_go end c = (end - c.group) * 4294967296 + (end - c.first)

pub goes_down : (image s : List ℕ) (arena : Arena) (isShape : Bool) (x : Span) (c c' : Cursor) → x.end < 4294967296 → c.group < x.end → c.first < x.end → NextPart image s arena isShape x c c'
    → to_go x.end c' < to_go x.end c
goes_down image s arena isShape x c c' small less first a = ⊎_elim (λ h. same_group h.0 h.1) (λ h. omega arith) a.further
  where
    same_group : c'.group ≡ c.group → c.first < c'.first → to_go x.end c' < to_go x.end c
    same_group e f = omega arith

-- the parts from a cursor on, and those behind it
abbrev pub AlongParts : Document → Bool → Span → Cursor → List ℕ → List (List ℕ) → Type 0
AlongParts D true x c = AlongGroups D x c.group
AlongParts D false x c = λ l rest. Along D x l c rest

abbrev pub BehindPart : Document → Bool → Span → Cursor → List ℕ → List (List ℕ) → Type 0
BehindPart D true x c = λ l rest. (x.start ≤ c.group) × (rest ≡ groups_from D x l (c.group + 1))
BehindPart D false x c = λ l rest. Opened D x l c × (rest ≡ subgroups_after D x l c)

pub part_first : {image : List ℕ} {arena : Arena} {work : ℕ} {s : List ℕ} {z : states.Walk} (isShape : Bool) (x : Span) (levels : ℕ) {c : Cursor} → Ample work 0 z
    → FirstPart image s arena isShape x c → PassLoop image arena work s s z z x isShape levels (AlongParts (document image) isShape x c)
part_first true x levels ample first = shape_first x levels ample first.same
part_first false x levels ample first = parent_first x levels ample refl (record { same = first.same; below = first.below; is = first.is refl })

module _ {image : List ℕ} {arena : Arena} {work : ℕ} {s₀ s : List ℕ} {z₀ z : states.Walk} {x : Span} {levels : ℕ} where
  -- a part is walked
  pub part_turn : (isShape : Bool) (c : Cursor) {s' : List ℕ} {z' : states.Walk} {part : Part} → PassLoop image arena work s₀ s z₀ z x isShape levels (AlongParts (document image) isShape x c)
      → Ample work 0 z → c.group < x.end → part ≡ part_in image s arena.store x isShape c → Stepped image arena work s s' z part isShape levels z'
      → PassLoop image arena work s₀ s' z₀ z' x isShape levels (BehindPart (document image) isShape x c)
  part_turn true c loop ample less is step = shape_turn loop ample less is step
  part_turn false c loop ample less is step = parent_turn c loop ample less is step

  -- the next one is found
  pub part_found : (isShape : Bool) (c : Cursor) {c' : Cursor} → PassLoop image arena work s₀ s z₀ z x isShape levels (BehindPart (document image) isShape x c) → z.reply.kind ≡ 0
      → NextPart image s arena isShape x c c' → PassLoop image arena work s₀ s z₀ z x isShape levels (AlongParts (document image) isShape x c')
  part_found true c loop go next = shape_found loop go (next.group refl)
  part_found false c loop go next = parent_found c loop go (record { below = next.below; further = next.further; is = next.subgroup refl })

  -- there is none
  pub part_none : (isShape : Bool) (c : Cursor) → PassLoop image arena work s₀ s z₀ z x isShape levels (AlongParts (document image) isShape x c) → x.end ≤ c.group → (level : ℕ) → level ≡ suc levels
      → WalksList image arena work s₀ s z₀ x isShape level z
  part_none true c loop past level is = shape_end loop past level is
  part_none false c loop past level is = parent_end c loop past level is
