-- The new corners, as they are computed; and what is known of what was finished.
use Rattle.std.proofs.Common.{◌≡◌, ℕ, List, Result, Ok, ap, ap₂, ◌∙◌, subst}
use Rattle.std.specs.Prelude.{IfOk}
use Rattle.dense_blocks.specs.Field.{Ops}
use Rattle.dense_blocks.specs.FieldLaws.{IsField}
use Rattle.dense_blocks.specs.Matrices.{product}
use Rattle.dense_blocks.specs.MatrixFacts.{matrix_negative}
use Rattle.dense_blocks.specs.Blocks.{matrix_of}
use Rattle.dense_blocks.specs.BlockFacts.{IsBlock}
use Rattle.dense_blocks.specs.declared.block.Block.{Block}
use Rattle.dense_blocks.proofs.MatrixLaws.{product-matrix_negative}
use Rattle.reduce_step.specs.declared.footprint.Footprint.{Footprint}
use Rattle.reduce_step.specs.declared.finish.Finish.{Finish}
use Rattle.reduce_step.specs.declared.finish.Finish.TheVariants.{Made}
use Rattle.reduce_step.specs.Records.{RecordValue}
use Rattle.reduce_step.specs.Finishes.{Finishes, IsRecordOf}

-- c times the negative of a r is the negative of c (a r), for an r of n columns
pub change-negative : (K : Ops) (F : IsField K) (n : ℕ) (a r c moved negative change : Block) → r.cols ≡ n
    → IsBlock moved a.rows r.cols (product K r.cols (matrix_of a) (matrix_of r))
    → IsBlock negative moved.rows moved.cols (matrix_negative K (matrix_of moved))
    → IsBlock change c.rows negative.cols (product K negative.cols (matrix_of c) (matrix_of negative))
    → IsBlock change c.rows n (matrix_negative K (product K n (matrix_of c) (product K n (matrix_of a) (matrix_of r))))
change-negative K F n a r c moved negative change cols m g h =
    let A : List (List ℕ) = matrix_of a in
    let R : List (List ℕ) = matrix_of r in
    let C : List (List ℕ) = matrix_of c in
    let wide : negative.cols ≡ n = g.columns_are ∙ m.columns_are ∙ cols in
    record {
      rows_are = h.rows_are;
      columns_are = h.columns_are ∙ wide;
      matrix_is =
          h.matrix_is
          ∙ ap₂ (λ k B. product K k C B) wide
          (g.matrix_is ∙ ap (matrix_negative K) (m.matrix_is ∙ ap (λ k. product K k A R) cols))
          ∙ product-matrix_negative K F n C (product K n A R);
    }

-- what is known of a record that was made, and of a pivot without an inverse
pub made-record : {T E : Type 0} (K : Ops) (f : T) (foot : Footprint) (result : Result (Finish T) E) (finish : Finish T)
    (r : RecordValue T) → IfOk result (Finishes K f foot) → result ≡ Ok finish → finish ≡ Made r → IsRecordOf K f foot r
made-record K f foot result finish r h e g =
    subst (Finishes K f foot) g (subst (λ x. IfOk x (Finishes K f foot)) e h)

pub finish-known : {T E : Type 0} (K : Ops) (f : T) (foot : Footprint) (result : Result (Finish T) E)
    (finish : Finish T) → IfOk result (Finishes K f foot) → result ≡ Ok finish → Finishes K f foot finish
finish-known K f foot result finish h e = subst (λ x. IfOk x (Finishes K f foot)) e h
