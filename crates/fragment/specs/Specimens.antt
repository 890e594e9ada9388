-- Specimens of kinds 5 and 9: images, and what is shown of them. Each has one object type, whose sets hold
-- nothing but spreads.
-- Assumes nothing.
use Rattle.std.specs.Prelude.{ℕ, List, [], ◌∷◌}
use Rattle.std.proofs.Math.Option.{Option, none, some}
use Rattle.fragment.specs.Rules.{Refusal, refusal}

pub record Specimen : Type 0 where
  pub image : List ℕ
  pub shown : Option Refusal

abbrev pub specimen : List ℕ → Option Refusal → Specimen
specimen image shown = record { image = image; shown = shown }

-- fragment 0 spreads 1, 1 spreads 1: the fragment that reaches itself is named, not the one that leads there
abbrev pub leads_to_cycle : List ℕ
leads_to_cycle =
    1 ∷ 50 ∷ 1 ∷ 20 ∷ 0 ∷ 22 ∷ 0 ∷ 22 ∷ 2 ∷ 22 ∷ 2 ∷ 26 ∷ 2 ∷ 32 ∷ 0 ∷ 50 ∷ 0 ∷ 50 ∷ 0 ∷ 50 ∷ 10 ∷ 1 ∷ 0 ∷ 0 ∷ 0 ∷ 0 ∷ 0 ∷ 0 ∷ 1 ∷ 0 ∷ 1 ∷ 1 ∷
    1 ∷ 0 ∷ 0 ∷ 0 ∷ 0 ∷ 0 ∷ 1 ∷ 0 ∷ 0 ∷
    1 ∷ 0 ∷ 0 ∷ 0 ∷ 0 ∷ 0 ∷ 1 ∷ 0 ∷ 0 ∷ []

-- fragment 0 spreads 1, 1 spreads 0: both reach themselves, the lowest is named
abbrev pub two_in_cycle : List ℕ
two_in_cycle =
    1 ∷ 50 ∷ 1 ∷ 20 ∷ 0 ∷ 22 ∷ 0 ∷ 22 ∷ 2 ∷ 22 ∷ 2 ∷ 26 ∷ 2 ∷ 32 ∷ 0 ∷ 50 ∷ 0 ∷ 50 ∷ 0 ∷ 50 ∷ 10 ∷ 1 ∷ 0 ∷ 0 ∷ 0 ∷ 0 ∷ 0 ∷ 0 ∷ 1 ∷ 0 ∷ 1 ∷ 1 ∷
    1 ∷ 0 ∷ 0 ∷ 0 ∷ 0 ∷ 0 ∷ 1 ∷ 0 ∷ 0 ∷
    1 ∷ 0 ∷ 0 ∷ 0 ∷ 0 ∷ 0 ∷ 0 ∷ 0 ∷ 0 ∷ []

-- an empty operation; fragment 1 spreads 0: by reach both are unused, and the lowest is named
abbrev pub spread_unreached : List ℕ
spread_unreached =
    1 ∷ 48 ∷ 1 ∷ 20 ∷ 0 ∷ 22 ∷ 1 ∷ 22 ∷ 2 ∷ 26 ∷ 3 ∷ 30 ∷ 1 ∷ 39 ∷ 0 ∷ 48 ∷ 0 ∷ 48 ∷ 0 ∷ 48 ∷ 10 ∷ 1 ∷ 0 ∷ 0 ∷ 0 ∷ 0 ∷ 0 ∷ 0 ∷ 0 ∷ 0 ∷ 0 ∷ 0 ∷ 0 ∷ 0 ∷ 0 ∷ 0 ∷
    0 ∷ 0 ∷ 1 ∷
    1 ∷ 0 ∷ 0 ∷ 0 ∷ 0 ∷ 0 ∷ 0 ∷ 0 ∷ 0 ∷ []

-- an operation spreads fragment 0, which spreads 1
abbrev pub all_used : List ℕ
all_used =
    1 ∷ 57 ∷ 1 ∷ 20 ∷ 0 ∷ 22 ∷ 1 ∷ 22 ∷ 2 ∷ 26 ∷ 3 ∷ 30 ∷ 2 ∷ 39 ∷ 0 ∷ 57 ∷ 0 ∷ 57 ∷ 0 ∷ 57 ∷ 10 ∷ 1 ∷ 0 ∷ 0 ∷ 0 ∷ 0 ∷ 0 ∷ 0 ∷ 0 ∷ 0 ∷ 0 ∷ 0 ∷ 1 ∷ 0 ∷ 1 ∷ 1 ∷
    0 ∷ 2 ∷ 0 ∷
    1 ∷ 0 ∷ 0 ∷ 0 ∷ 0 ∷ 0 ∷ 0 ∷ 0 ∷ 0 ∷
    1 ∷ 0 ∷ 0 ∷ 0 ∷ 0 ∷ 0 ∷ 1 ∷ 0 ∷ 0 ∷ []

abbrev pub specimens : List Specimen
specimens =
    specimen leads_to_cycle (some (refusal 5 0 1)) ∷
    specimen two_in_cycle (some (refusal 5 0 0)) ∷
    specimen spread_unreached (some (refusal 9 0 0)) ∷
    specimen all_used none ∷ []
