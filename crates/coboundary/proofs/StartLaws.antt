-- The cells with a stalk, and the blocks of the faces.
use Rattle.std.proofs.Common.{◌&&◌, ◌*◌, suc, zero, take, find, nat_eq, slice_get, Option, Some, None, AllPairs, subst}
use Rattle.std.proofs.Common.{◌≡◌, ℕ, ◌+◌, ◌<◌, Bool, true, false, cond, not, List, [], ◌∷◌, ◌++◌, length, drop, get_or}
use Rattle.std.proofs.Common.{map, filter, refl, sym, ap, ap₂, ◌∙◌, arith, add-one, append_assoc, drop-cons}
use Rattle.std.specs.Prelude.{◌==◌, if◌then◌else◌}
use Rattle.std.specs.List.{list_all}
use Rattle.std.proofs.lemmas.List.{take_all}
use Rattle.dense_blocks.specs.Vectors.{zeros}
use Rattle.dense_blocks.specs.MatrixFacts.{zero_matrix}
use Rattle.dense_blocks.proofs.Shapes.{Matrix}
use Rattle.dense_blocks.proofs.MatrixLaws.{no-rows, no-columns}
use Rattle.square_check.specs.Squares.{restriction}
use Rattle.std.specs.Option.{option_map, option_and_then}
use Rattle.std.proofs.lemmas.Bool.{and_parts, eqb-true}
use Rattle.std.proofs.lemmas.Option.{get_or_from_slice_get, slice_get_within}
use Rattle.cell_complex.specs.declared.face.Face.{Face}
use Rattle.cell_complex.specs.Complexes.{CellComplex, joins}
use Rattle.cell_complex.specs.Invariants.{AreApart}
use Rattle.cell_complex.specs.Builds.{with_first_faces}
use Rattle.dense_blocks.specs.Field.{Ops}
use Rattle.dense_blocks.specs.Blocks.{matrix_of}
use Rattle.dense_blocks.specs.declared.block.Block.{Block}
use Rattle.square_check.proofs.Placed.{some-same}
use Rattle.cochain_vec.specs.declared.cell.Cell.{Cell}
use Rattle.sheaf_data.specs.Betti.{signed_matrix}
use Rattle.sheaf_data.specs.Arrows.{numbered_cells}
use Rattle.coboundary.specs.Start.{with_stalks, face_matrix}
use Rattle.coboundary.specs.Put.{AreFirstPut}
use Rattle.block_sparse.specs.StoredBlocks.{StoredBlock, is_zero}
use Rattle.block_sparse.specs.Grids.{as_block}
use Rattle.block_sparse.specs.Lists.{with_block}
use Rattle.coboundary.proofs.ArrowLaws.{eqb-sym, find-behind, at_place-behind, at_place-front}

with_stalks-cons : (c : Cell) (cs : List Cell) → with_stalks (c ∷ cs) ≡ with_stalks (c ∷ []) ++ with_stalks cs
with_stalks-cons c cs = go (not (c.size == 0))
  where
    kept : List Cell
    kept = filter (λ (c : Cell). not (c.size == 0)) cs

    row : Cell → ℕ × ℕ × ℕ
    row c = (c.cell, c.degree, c.size)

    go : (b : Bool) → map row (cond b (c ∷ kept) kept) ≡ map row (cond b (c ∷ []) []) ++ map row kept
    go true = refl
    go false = refl

-- one numbered_cells cell more
pub with_stalks-next : (i : ℕ) (dims stalks : List ℕ) (live all : List (ℕ × ℕ × ℕ)) → length stalks ≡ length dims → i
    < length dims
    → live ++ with_stalks (numbered_cells i (drop i dims) (drop i stalks)) ≡ all
    → (live ++ with_stalks (record { cell = i; degree = get_or dims i 0; size = get_or stalks i 0 } ∷ []))
    ++ with_stalks (numbered_cells (i + 1) (drop (i + 1) dims) (drop (i + 1) stalks)) ≡ all
with_stalks-next i dims stalks live all same inside now =
    let c : Cell = record { cell = i; degree = get_or dims i 0; size = get_or stalks i 0 } in
    let rest = numbered_cells (i + 1) (drop (i + 1) dims) (drop (i + 1) stalks) in
    append_assoc live (with_stalks (c ∷ [])) (with_stalks rest)
    ∙ ap (λ t. live ++ t) (sym (with_stalks-cons c rest)
    ∙ ap (λ j. with_stalks (c ∷ numbered_cells (i + 1) (drop j dims) (drop j stalks))) (add-one i)
    ∙ sym (ap₂ (λ x y. with_stalks (numbered_cells i x y)) (drop-cons dims i 0 inside)
    (drop-cons stalks i 0 (omega arith))))
    ∙ now

-- the matrix of a face, by the list of faces
module _ (K : Ops) (dims : List ℕ) (s t : ℕ) where
  abbrev matrix_at : List Face → List Block → Option (List (List ℕ))
  matrix_at fs bs = face_matrix K (record { dims = dims; faces = fs }) bs s t

  abbrev its_matrix : Face → Block → List (List ℕ)
  its_matrix f b = signed_matrix K f.sign (matrix_of b)

  matrix_at-front : (f : Face) (fs : List Face) (b : Block) (bs : List Block) → joins s t f ≡ true
      → matrix_at (f ∷ fs) (b ∷ bs) ≡ Some (its_matrix f b)
  matrix_at-front f fs b bs e =
      ap₂ (λ g r. option_and_then (λ g. option_map (λ b. signed_matrix K g (matrix_of b)) r) g)
      (ap (λ x. option_map (λ (f : Face). f.sign) (cond x (Some f) (find (joins s t) fs))) e)
      (at_place-front (joins s t) f fs b bs e)

  matrix_at-behind : (f : Face) (fs : List Face) (b : Block) (bs : List Block) → joins s t f ≡ false
      → matrix_at (f ∷ fs) (b ∷ bs) ≡ matrix_at fs bs
  matrix_at-behind f fs b bs e =
      ap₂ (λ g r. option_and_then (λ g. option_map (λ b. signed_matrix K g (matrix_of b)) r) g)
      (ap (option_map (λ (f : Face). f.sign)) (find-behind (joins s t) f fs e))
      (at_place-behind (joins s t) f fs b bs e)

  -- one face more, at the end
  matrix_at-more : (n : ℕ) (fs : List Face) (bs : List Block) (f : Face) (b : Block) → AllPairs AreApart fs
      → slice_get fs n ≡ Some f → slice_get bs n ≡ Some b
      → matrix_at (take (suc n) fs) (take (suc n) bs) ≡ cond (joins s t f) (Some (its_matrix f b))
      (matrix_at (take n fs) (take n bs))
  matrix_at-more n [] bs f b apart is_f is_b = cc
  matrix_at-more n (g ∷ fs) [] f b apart is_f is_b = cc
  matrix_at-more zero (g ∷ fs) (c ∷ bs) f b apart is_f is_b =
      go (joins s t g) refl ∙ ap₂ (λ x y. cond (joins s t x) (Some (its_matrix x y)) None) (some-same g f is_f)
      (some-same c b is_b)
    where
      go : (x : Bool) → joins s t g ≡ x → matrix_at (g ∷ []) (c ∷ []) ≡ cond x (Some (its_matrix g c)) None
      go true e = matrix_at-front g [] c [] e
      go false e = matrix_at-behind g [] c [] e
  matrix_at-more (suc n) (g ∷ fs) (c ∷ bs) f b apart is_f is_b =
      go (joins s t g) refl (matrix_at-more n fs bs f b
      (λ i j d l m. apart (suc i) (suc j) d (omega arith) (omega arith)) is_f is_b)
    where
      others : joins s t g ≡ true → joins s t f ≡ false
      others e =
          let p = and_parts (nat_eq s g.s) (nat_eq t g.t) e in
          ap₂ (λ i j. joins i j f) (eqb-true s g.s p.0) (eqb-true t g.t p.1)
          ∙ subst (AreApart g) (get_or_from_slice_get fs n f g is_f)
          (apart 0 (suc n) g (omega arith) (omega (arith, slice_get_within fs n f is_f)))

      go : (x : Bool) → joins s t g ≡ x
          → matrix_at (take (suc n) fs) (take (suc n) bs) ≡ cond (joins s t f) (Some (its_matrix f b))
          (matrix_at (take n fs) (take n bs))
          → matrix_at (g ∷ take (suc n) fs) (c ∷ take (suc n) bs) ≡ cond (joins s t f) (Some (its_matrix f b))
          (matrix_at (g ∷ take n fs) (c ∷ take n bs))
      go true e r =
          matrix_at-front g (take (suc n) fs) c (take (suc n) bs) e
          ∙ sym (ap (λ x. cond x (Some (its_matrix f b)) (matrix_at (g ∷ take n fs) (c ∷ take n bs))) (others e)
          ∙ matrix_at-front g (take n fs) c (take n bs) e)
      go false e r =
          matrix_at-behind g (take (suc n) fs) c (take (suc n) bs) e ∙ r
          ∙ ap (λ m. cond (joins s t f) (Some (its_matrix f b)) m)
          (sym (matrix_at-behind g (take n fs) c (take n bs) e))

pub face_matrix-more : (K : Ops) (c : CellComplex) (blocks : List Block) (n s t : ℕ) (f : Face) (b : Block)
    → AllPairs AreApart c.faces
    → slice_get c.faces n ≡ Some f → slice_get blocks n ≡ Some b
    → face_matrix K (with_first_faces c.dims c.faces (n + 1)) (take (n + 1) blocks) s t
    ≡ (if joins s t f then Some (signed_matrix K f.sign (matrix_of b))
    else face_matrix K (with_first_faces c.dims c.faces n) (take n blocks) s t)
face_matrix-more K c blocks n s t f b apart is_f is_b =
    ap (λ j. face_matrix K (with_first_faces c.dims c.faces j) (take j blocks) s t) (add-one n)
    ∙ matrix_at-more K c.dims s t n c.faces blocks f b apart is_f is_b

-- no earlier face joins what a face does
no-earlier : (n : ℕ) (fs : List Face) (f : Face) → AllPairs AreApart fs → slice_get fs n ≡ Some f
    → find (joins f.s f.t) (take n fs) ≡ None
no-earlier n [] f apart is_f = cc
no-earlier zero (g ∷ fs) f apart is_f = refl
no-earlier (suc n) (g ∷ fs) f apart is_f =
    find-behind (joins f.s f.t) g (take n fs)
    (ap₂ ◌&&◌ (eqb-sym f.s g.s) (eqb-sym f.t g.t)
    ∙ subst (AreApart g) (get_or_from_slice_get fs n f g is_f)
    (apart 0 (suc n) g (omega arith) (omega (arith, slice_get_within fs n f is_f))))
    ∙ no-earlier n fs f (λ i j d l m. apart (suc i) (suc j) d (omega arith) (omega arith)) is_f

module _ (K : Ops) (c : CellComplex) (blocks : List Block) (n : ℕ) (f : Face) (b : Block)
    (apart : AllPairs AreApart c.faces)
    (is_f : slice_get c.faces n ≡ Some f) (is_b : slice_get blocks n ≡ Some b) (stored : ℕ → ℕ → Option StoredBlock)
    (now : AreFirstPut K c blocks n stored) where
  pub first-put-more : (new : ℕ → ℕ → Option StoredBlock)
      → ((s t : ℕ) → new s t ≡ with_block stored f.s f.t (signed_matrix K f.sign (matrix_of b)) s t)
      → AreFirstPut K c blocks (n + 1) new
  first-put-more new put s t =
      put s t
      ∙ go (joins s t f)
      ∙ ap (option_and_then as_block) (sym (face_matrix-more K c blocks n s t f b apart is_f is_b))
    where
      A : List (List ℕ)
      A = signed_matrix K f.sign (matrix_of b)

      go : (x : Bool) → cond x (as_block A) (stored s t) ≡ option_and_then as_block
          (cond x (Some A) (face_matrix K (with_first_faces c.dims c.faces n) (take n blocks) s t))
      go true = refl
      go false = now s t

  -- nothing stands yet at the pair of the next face
  pub first-put-absent : stored f.s f.t ≡ None
  first-put-absent =
      now f.s f.t
      ∙ ap (λ o. option_and_then as_block
      (option_and_then (λ g. option_map (λ b. signed_matrix K g (matrix_of b))
      (restriction (with_first_faces c.dims c.faces n) (take n blocks) f.s f.t))
      (option_map (λ (f : Face). f.sign) o))) (no-earlier n c.faces f apart is_f)

  -- where the matrix of the face is empty, nothing has to be put
  pub first-put-empty : as_block (signed_matrix K f.sign (matrix_of b)) ≡ None → AreFirstPut K c blocks (n + 1) stored
  first-put-empty empty = first-put-more stored (λ s t. go s t (joins s t f) refl)
    where
      go : (s t : ℕ) (x : Bool) → joins s t f ≡ x
          → stored s t ≡ cond x (as_block (signed_matrix K f.sign (matrix_of b)))
          (stored s t)
      go s t true e =
          let p = and_parts (nat_eq s f.s) (nat_eq t f.t) e in
          ap₂ stored (eqb-true s f.s p.0) (eqb-true t f.t p.1) ∙ first-put-absent ∙ sym empty
      go s t false e = refl

pub first-put-all : (K : Ops) (c : CellComplex) (blocks : List Block) (stored : ℕ → ℕ → Option StoredBlock)
    → length blocks ≡ length c.faces
    → AreFirstPut K c blocks (length c.faces) stored → (s t : ℕ)
    → stored s t ≡ option_and_then as_block (face_matrix K c blocks s t)
first-put-all K c blocks stored same now s t =
    now s t
    ∙ ap₂ (λ fs bs. option_and_then as_block (face_matrix K (record c { faces = fs }) bs s t))
    (take_all (length c.faces) c.faces (omega arith))
    (take_all (length c.faces) blocks (omega arith))

-- a matrix without rows or without columns
is_zero-zero_matrix : (m n : ℕ) → is_zero (zero_matrix m n) ≡ true
is_zero-zero_matrix zero n = refl
is_zero-zero_matrix (suc m) n = ap₂ ◌&&◌ (row n) (is_zero-zero_matrix m n)
  where
    row : (n : ℕ) → list_all (λ a. a == 0) (zeros n) ≡ true
    row zero = refl
    row (suc n) = row n

pub as_block-empty : (K : Ops) (m n : ℕ) (A : List (List ℕ)) → Matrix K m n A → m * n ≡ 0 → as_block A ≡ None
as_block-empty K m n A h none = ap (λ b. cond b None (Some (record { matrix = A; flagged = false }))) (empty m n h none)
  where
    empty : (m n : ℕ) → Matrix K m n A → m * n ≡ 0 → is_zero A ≡ true
    empty zero n h e = ap is_zero (no-rows K n A h)
    empty (suc m) zero h e = ap is_zero (no-columns K (suc m) A h) ∙ is_zero-zero_matrix (suc m) 0
    empty (suc m) (suc n) h e = absurd (grind arith)
