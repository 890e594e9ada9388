-- `operations::check_operation` meets its contract: the variables decide, else the walk. Assumes nothing.
use mathlib.Core.Path.{refl}
use Rattle.query.proofs.Lending.{by_variables, by_walk, passed, shows_nothing}
use Rattle.query.proofs.operations.check_operation.Goals as goal

pub returns-in-Err-clause-says : goal.returns-in-Err-clause-says
returns-in-Err-clause-says c = by_variables c.requires.0 c.in-Err.ensures _ _ refl

pub returns-then-reply-eq0-clause-says : goal.returns-then-reply-eq0-clause-says
returns-then-reply-eq0-clause-says c =
    passed
    (by_walk c.requires.0 c.validate_variable_definitions.ensures _ (shows_nothing _ c.in_default.not-Err) c.requires.1 c.requires.2 c.words_needed-front.ensures.0 c.validate_operation-reply.ensures)
    c.if-reply-eq0.true

pub returns-else-reply-eq0-clause-says : goal.returns-else-reply-eq0-clause-says
returns-else-reply-eq0-clause-says c =
    by_walk c.requires.0 c.validate_variable_definitions.ensures _ (shows_nothing _ c.in_default.not-Err) c.requires.1 c.requires.2 c.words_needed-front.ensures.0 c.validate_operation-reply.ensures
