-- Which pass it is, as the relations take it. Assumes nothing.
use Rattle.std.specs.Prelude.{Bool, true, false}
use Rattle.selection.specs.declared.pass.Pass.{Pass}
use Rattle.selection.specs.declared.pass.Pass.TheVariants.{Shape, Parents}

abbrev pub is_shape : Pass → Bool
is_shape Shape = true
is_shape Parents = false
