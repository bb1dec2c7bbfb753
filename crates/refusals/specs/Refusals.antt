-- What a refusal says, and which numbers belong to which layer. Assumes nothing.
use Rattle.std.specs.Prelude.{ℕ, Bool, cond, ◌&&◌, ◌||◌, List, ◌++◌, ℤ, Some, None, codes, decimal, Option, ◌==◌, nat_le}
use Rattle.refusals.specs.declared.layers.Layer.{Layer}
use Rattle.refusals.specs.declared.layers.Layer.TheVariants.{Plate, Thing, Gate, Block, Record}

-- What a refusal says: the layer that refused, the refusal's number, and the values that go with it.
pub record Refusal : Type 0 where
  pub layer : Layer
  pub number : ℕ
  pub values : List ℤ

abbrev from_to : ℕ → ℕ → ℕ → Bool
from_to low high n = nat_le low n && nat_le n high

-- The layer that a number belongs to, if any.
abbrev pub layer_of : ℕ → Option Layer
layer_of n =
    cond (from_to 11 19 n) (Some Plate)
    (cond (from_to 21 29 n) (Some Thing)
    (cond (from_to 31 49 n) (Some Gate)
    (cond (from_to 51 53 n || n == 56) (Some Block)
    (cond (from_to 54 55 n || from_to 58 59 n) (Some Record) None))))

-- The name of a layer, as it is written.
abbrev pub layer_name : Layer → List ℕ
layer_name Plate = codes "plate"
layer_name Thing = codes "thing"
layer_name Gate = codes "gate"
layer_name Block = codes "block"
layer_name Record = codes "record"

-- How a refusal is written: `refused 33 (gate): ` and its words.
abbrev pub refusal_text : Refusal → List ℕ → List ℕ
refusal_text refusal words = codes "refused " ++ (decimal refusal.number ++ (codes " (" ++ (layer_name refusal.layer ++ (codes "): " ++ words))))
