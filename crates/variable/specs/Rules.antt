-- The rules on an operation's variables, written from the specification of October 2021 (5.8.1, 5.8.2, 5.8.4, 5.8.5) over what an
-- operation reaches: relations, no words of scratch and no steps. A type is the one that a reference stands for. What the
-- check leaves out of these rules is said at the rule.
-- Assumes nothing.
use Rattle.std.specs.Prelude.{ℕ, ◌<◌, ◌≤◌, ◌≡◌, true, List, eqb}
use Rattle.std.proofs.Math.Option.{Option, none, some}
use Rattle.tables.specs.Columns.{variable, list, operation_variables, operation_directives, fragment_directives, field_arguments, selection_directives, argument_type, argument_default, value_kind, value_atom, value_members, variable_name, variable_type, variable_default}
use Rattle.tables.specs.Good.{StandsIn}
use Rattle.tables.specs.TypeOf.{Ty, StandsFor}
use Rattle.reach.specs.Reach.{RowOf, Reaches, SpreadsIn}
use Rattle.variable.specs.Types.{is_input_type, is_variable_usage_allowed, kind_at}
use Rattle.variable.specs.Verdict.{Shown}

-- r breaks a rule, and no lower row does
pub record Lowest (Breaks : ℕ → Type 0) (r : ℕ) : Type 0 where
  pub breaks : Breaks r
  pub least : (q : ℕ) → q < r → Breaks q → ⊥

module _ (image : List ℕ) where
  -- IsInputType(variable_type) is true, of the type that a variable has
  pub record IsInput (v : ℕ) : Type 0 where
    pub type : Ty
    pub stands : StandsFor image (variable_type image v) type
    pub input : is_input_type (kind_at image) type ≡ true

  -- IsVariableUsageAllowed(variableDefinition, variableUsage) is true, of the types that a variable and an argument's place have
  pub record IsAllowed (v a : ℕ) : Type 0 where
    pub own : Ty
    pub own_stands : StandsFor image (variable_type image v) own
    pub place : Ty
    pub place_stands : StandsFor image (argument_type image a) place
    pub allowed : is_variable_usage_allowed own place (eqb (variable_default image v) 1) (eqb (argument_default image a) 1) ≡ true

module _ (image : List ℕ) (i : ℕ) where
  -- ---- what operation i defines and uses; its own set is set i

  abbrev pub Defines : ℕ → Type 0
  Defines v = RowOf (operation_variables image i) v

  -- Argument row a is used: it is a directive argument of the operation, of a selection or of a fragment definition that is reached,
  -- or a field's argument.
  pub data UsesArgument (a : ℕ) : Type 0 where
    of_operation : RowOf (operation_directives image i) a → UsesArgument a
    of_field : {s r : ℕ} → Reaches image i s → StandsIn image r s → RowOf (field_arguments image r) a → UsesArgument a
    of_selection : {s r : ℕ} → Reaches image i s → StandsIn image r s → RowOf (selection_directives image r) a → UsesArgument a
    of_definition : {s f : ℕ} → Reaches image i s → SpreadsIn image s f → RowOf (fragment_directives image f) a → UsesArgument a

  -- value v stands in the value of argument a, at any depth in lists and objects
  pub data Inside (a : ℕ) : ℕ → Type 0 where
    whole : Inside a a
    member : {v m : ℕ} → Inside a v → list ≤ value_kind image v → RowOf (value_members image v) m → Inside a m

  pub record UsesValue (v : ℕ) : Type 0 where
    pub argument : ℕ
    pub used : UsesArgument argument
    pub inside : Inside argument v

  pub record UsesName (name : ℕ) : Type 0 where
    pub value : ℕ
    pub used : UsesValue value
    pub kind : value_kind image value ≡ variable
    pub atom : value_atom image value ≡ name

  -- ---- 5.8.1 Variable Uniqueness: an operation defines no two variables of one name

  abbrev pub AreUnique : Type 0
  AreUnique = (u v : ℕ) → Defines u → Defines v → variable_name image u ≡ variable_name image v → u ≡ v

  pub record Repeats (v : ℕ) : Type 0 where
    pub defined : Defines v
    pub earlier : ℕ
    pub before : earlier < v
    pub defines : Defines earlier
    pub name : variable_name image earlier ≡ variable_name image v

  -- ---- 5.8.2 Variables Are Input Types: IsInputType(variable_type) is true of each variable

  abbrev pub AreInputs : Type 0
  AreInputs = (v : ℕ) → Defines v → IsInput image v

  pub record NoInput (v : ℕ) : Type 0 where
    pub defined : Defines v
    pub output : IsInput image v → ⊥

  -- ---- 5.8.4 All Variables Used: each variable that an operation defines is used in the operation itself or in a fragment that it
  -- reaches by spreads

  abbrev pub AreUsed : Type 0
  AreUsed = (v : ℕ) → Defines v → UsesName (variable_name image v)

  pub record Unused (v : ℕ) : Type 0 where
    pub defined : Defines v
    pub unused : UsesName (variable_name image v) → ⊥

  -- ---- 5.8.5 All Variable Usages Are Allowed: IsVariableUsageAllowed of each usage. Left out by the check: a usage in a
  -- list or an object, and one that the operation does not define

  -- argument a is variable v
  pub record IsUsage (v a : ℕ) : Type 0 where
    pub used : UsesArgument a
    pub kind : value_kind image a ≡ variable
    pub defined : Defines v
    pub name : variable_name image v ≡ value_atom image a

  abbrev pub AreAllowed : Type 0
  AreAllowed = (v a : ℕ) → IsUsage v a → IsAllowed image v a

  pub record Misused (a : ℕ) : Type 0 where
    pub by : ℕ
    pub usage : IsUsage by a
    pub refused : IsAllowed image by a → ⊥

  -- ---- the four in their order, and what is shown

  abbrev pub shown : ℕ → ℕ → Option Shown
  shown kind a = some (record { kind = kind; a = a })

  pub data Verdict (o : Option Shown) : Type 0 where
    ten : (v : ℕ) → Lowest NoInput v → o ≡ shown 10 v → Verdict o
    eleven : (v : ℕ) → AreInputs → Lowest Repeats v → o ≡ shown 11 v → Verdict o
    twelve : (v : ℕ) → AreInputs → AreUnique → Lowest Unused v → o ≡ shown 12 v → Verdict o
    thirteen : (a : ℕ) → AreInputs → AreUnique → AreUsed → Lowest Misused a → o ≡ shown 13 a → Verdict o
    right : AreInputs → AreUnique → AreUsed → AreAllowed → o ≡ none → Verdict o
