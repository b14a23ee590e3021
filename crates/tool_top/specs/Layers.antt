-- What `layers` writes.
use Rattle.std.specs.Prelude.{◌≡◌, ℕ, ◌==◌, ◌+◌, List, [], ◌∷◌, ◌++◌, map, codes, decimal, length, flat_map, slice_index}
use Rattle.std.specs.List.{filter, range_with_len}
use Rattle.source_model.specs.declared.Circuit.{Circuit}
use Rattle.source_model.specs.declared.Static.{Static}
use Rattle.source_model.specs.Statics.{statics}
use Rattle.board_core.specs.Uses.{all_axes, all_uses}
use Rattle.layer_pass.specs.declared.Layers.{Layers}
use Rattle.layer_pass.specs.Layering.{IsLayering, IsLowest, IsFewest, IsChain, IsTraced}

-- the products below n in a layer, ascending
abbrev pub members_below : List ℕ → ℕ → ℕ → List ℕ
members_below layer n k = filter (λ p. slice_index layer p == k) (range_with_len 0 n)

-- the products of each layer, from layer 1 on
abbrev pub rows_of : List ℕ → ℕ → List (List ℕ)
rows_of layer count = map (members_below layer (length layer)) (range_with_len 1 count)

-- each number after one space
abbrev pub spaced : List ℕ → List ℕ
spaced numbers = flat_map (λ n. codes " " ++ decimal n) numbers

-- the line of a layer with these products
abbrev pub layer_line : ℕ → List ℕ → List ℕ
layer_line k products = (codes "layer " ++ decimal k) ++ spaced products ++ codes "\n"

-- a line for each layer, numbered from k
abbrev pub layer_lines : ℕ → List (List ℕ) → List ℕ
layer_lines k [] = []
layer_lines k (row ∷ rows) = layer_line k row ++ layer_lines (k + 1) rows

-- the number of layers, a line for each layer, and the chain
abbrev pub layers_text : List ℕ → ℕ → List ℕ → List ℕ
layers_text layer count chain =
    (codes "layers 1 " ++ decimal count ++ codes "\n")
    ++ layer_lines 1 (rows_of layer count)
    ++ (codes "chain" ++ spaced chain ++ codes "\n")

-- layers of these products and a chain of as many: each product stands as low as in any layering, no layering has fewer
-- layers, and the chain goes from the least product of the last layer down, each time to the least one that holds it there
pub record AreLayers (products : List Static) (l : Layers) : Type 0 where
  pub layering : IsLayering (all_axes products) (all_uses products) l.layer l.count
  pub lowest : IsLowest (all_axes products) (all_uses products) l.layer
  pub fewest : IsFewest (all_axes products) (all_uses products) l.count
  pub chain : IsChain (all_axes products) (all_uses products) l.chain
  pub as_long : length l.chain ≡ l.count
  pub traced : IsTraced (all_axes products) (all_uses products) l.layer l.chain

-- the text is that of layers of the circuit's static products
abbrev pub AreLayersOf : Circuit → List ℕ → Type 0
AreLayersOf c text = (l : Layers) × AreLayers (statics c.items) l × (text ≡ layers_text l.layer l.count l.chain)
