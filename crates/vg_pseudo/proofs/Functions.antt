-- What a function makes of its arguments.
use Rattle.std.proofs.Common.{◌≡◌, List, [], ◌∷◌, Some, refl, inl, inr, ◌⊎◌}
use Rattle.vg_text.specs.declared.place.Place.{Place}
use Rattle.vg_pseudo.specs.declared.operators.UnaryOp.{UnaryOp}
use Rattle.vg_pseudo.specs.declared.operators.BinaryOp.{BinaryOp}
use Rattle.vg_pseudo.specs.declared.words.Function.{Function}
use Rattle.vg_pseudo.specs.declared.words.Function.TheVariants as functions
use Rattle.vg_pseudo.specs.Tree.{unary, binary}
use Rattle.vg_pseudo.specs.Spots.{spot_at}
use Rattle.vg_pseudo.specs.Expressions.{Part, above_one, above_two, function_of}

-- a function of one argument
pub record IsOfOne (f : Function) (place : Place) (parts : List Part) (node : Part) : Type 0 where
  pub op : UnaryOp
  pub argument : Part
  pub is : f ≡ functions.One op
  pub all : parts ≡ argument ∷ []
  pub same : above_one (unary (spot_at place) op argument.expression) argument ≡ node

-- a function of two arguments
pub record IsOfTwo (f : Function) (place : Place) (parts : List Part) (node : Part) : Type 0 where
  pub op : BinaryOp
  pub first : Part
  pub second : Part
  pub is : f ≡ functions.Two op
  pub all : parts ≡ first ∷ second ∷ []
  pub same : above_two (binary (spot_at place) op first.expression second.expression) first second ≡ node

some_once : (a b : Part) → Some a ≡ Some b → a ≡ b
some_once a b e = cc

-- a function takes one argument or two
pub function_of-found : (f : Function) (place : Place) (parts : List Part) (node : Part) → function_of f place parts ≡ Some node → IsOfOne f place parts node ⊎ IsOfTwo f place parts node
function_of-found (functions.One op) place [] node e = cc
function_of-found (functions.One op) place (x ∷ []) node e = inl (record { op = op; argument = x; is = refl; all = refl; same = some_once _ node e })
function_of-found (functions.One op) place (x ∷ y ∷ more) node e = cc
function_of-found (functions.Two op) place [] node e = cc
function_of-found (functions.Two op) place (x ∷ []) node e = cc
function_of-found (functions.Two op) place (x ∷ y ∷ []) node e = inr (record { op = op; first = x; second = y; is = refl; all = refl; same = some_once _ node e })
function_of-found (functions.Two op) place (x ∷ y ∷ z ∷ more) node e = cc
