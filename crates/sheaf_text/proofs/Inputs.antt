-- What a reading tells of an input: which one it is.
use Rattle.std.proofs.Common.{◌≡◌, List, [], ◌∷◌, map, refl, ap, ap₂}
use Rattle.dense_blocks.specs.declared.block.Block.{Block}
use Rattle.dense_blocks.proofs.SameBlocks.{same_block}
use Rattle.field_table.proofs.Known.{order_of-injective}
use Rattle.sheaf_text.specs.Grammar.{InputValue}
use Rattle.sheaf_text.specs.Readings.{input_value}
use Rattle.dense_blocks.specs.Blocks.{WrittenMatrix, written_matrix}
use Rattle.sheaf_text.specs.declared.input.Input.{Input}

-- ---- an input is known by its value

matrix_of-injective : (a b : Block) → written_matrix a ≡ written_matrix b → a ≡ b
matrix_of-injective a b e = same_block a b (ap (λ (m : WrittenMatrix). m.rows) e) (ap (λ (m : WrittenMatrix). m.cols) e)
    (ap (λ (m : WrittenMatrix). m.entries) e)

matrices-injective : (xs ys : List Block) → map written_matrix xs ≡ map written_matrix ys → xs ≡ ys
matrices-injective [] [] e = refl
matrices-injective [] (b ∷ ys) e = absurd cc
matrices-injective (a ∷ xs) [] e = absurd cc
matrices-injective (a ∷ xs) (b ∷ ys) e = ap₂ (λ m ms. m ∷ ms) (matrix_of-injective a b cc) (matrices-injective xs ys cc)

pub input_value-injective : (i j : Input) → input_value i ≡ input_value j → i ≡ j
input_value-injective i j e =
    let field : i.draft.field ≡ j.draft.field = order_of-injective i.draft.field j.draft.field
    (ap (λ (v : InputValue). v.order) e) in
    let dims : i.draft.complex.dims ≡ j.draft.complex.dims = ap (λ (v : InputValue). v.dims) e in
    let faces : i.draft.complex.faces ≡ j.draft.complex.faces = ap (λ (v : InputValue). v.faces) e in
    let stalks : i.draft.stalks ≡ j.draft.stalks = ap (λ (v : InputValue). v.stalks) e in
    let blocks : i.draft.blocks ≡ j.draft.blocks = matrices-injective i.draft.blocks j.draft.blocks
    (ap (λ (v : InputValue). v.blocks) e) in
    let scripts : i.scripts ≡ j.scripts = ap (λ (v : InputValue). v.scripts) e in
    λ x. record {
      draft = record {
        complex = record { dims = dims x; faces = faces x };
        field = field x;
        stalks = stalks x;
        blocks =
            blocks x;
      };
      scripts = scripts x;
    }
