-- The images of the specimens of values and of fragments are of edition 1 and without fault, by every row rule. Assumes nothing.
use mathlib.Core.Path.{◌≡◌, refl}
use mathlib.Core.List.{map}
use mathlib.Core.Option.{none}
use Rattle.rows.specs.RowFault.{image_fault}
use Rattle.rows.proofs.SpecimensHold.{computes}
use Rattle.values.specs.Specimens.{fields}
use Rattle.fragment.specs.Specimens.{Specimen, specimens}

pub of_values : image_fault fields ≡ none
unfolding fields computes
of_values = refl

pub of_fragments_lem : map (λ (x : Specimen). image_fault x.image) specimens ≡ map (λ (x : Specimen). none) specimens
unfolding computes
of_fragments_lem = refl
