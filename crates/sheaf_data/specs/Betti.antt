-- The whole cochain complex of a sheaf, and its Betti numbers.
use Rattle.std.specs.Prelude.{ℕ, ◌+◌, List, [], ◌∷◌, map, max}
use Rattle.std.specs.List.{zip, enumerate_from}
use Rattle.cell_complex.specs.declared.face.Face.{Face}
use Rattle.cell_complex.specs.declared.face.Sign.{Sign}
use Rattle.cell_complex.specs.declared.face.Sign.TheVariants.{Plus, Minus}
use Rattle.cell_complex.specs.Complexes.{CellComplex}
use Rattle.cochain_vec.specs.Complexes.{CellularComplex}
use Rattle.dense_blocks.specs.Field.{Ops}
use Rattle.dense_blocks.specs.Blocks.{matrix_of}
use Rattle.dense_blocks.specs.declared.block.Block.{Block}

-- a sign times a matrix
abbrev pub signed_matrix : Ops → Sign → List (List ℕ) → List (List ℕ)
signed_matrix K Plus A = A
signed_matrix K Minus A = map (map K.neg) A

-- the whole complex: each cell, with its dimension as degree and its stalk as size; each face's sign times its matrix
abbrev pub cochain_complex_of : Ops → CellComplex → List ℕ → List Block → CellularComplex
cochain_complex_of K c stalks blocks = record {
  cells = map (λ (p : ℕ × (ℕ × ℕ)). record { cell = p.0; degree = p.1.0; size = p.1.1 })
      (enumerate_from 0 (zip c.dims stalks));
  arrows = map (λ (p : Face × Block). record {
    from = p.0.s;
    to = p.0.t;
    matrix = signed_matrix K p.0.sign (matrix_of p.1);
  }) (zip c.faces blocks);
}

-- one more than the largest dimension of a cell, and 0 where there are no cells
abbrev pub degree_count : List ℕ → ℕ
degree_count [] = 0
degree_count (d ∷ dims) = max (d + 1) (degree_count dims)
