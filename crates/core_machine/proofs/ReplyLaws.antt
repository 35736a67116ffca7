-- A version has one reduction up to what counts, and so one reply to a question: where the maps are the composite.
use Rattle.std.proofs.Common.{◌≡◌, ◌↔◌, ℕ, zero, suc, List, [], ◌∷◌, length, refl, sym, ap, ap₂, subst}
use Rattle.std.proofs.Common.{◌∙◌, arith}
use Rattle.std.proofs.lemmas.Option.{same_Some}
use Rattle.dense_blocks.specs.Field.{Ops}
use Rattle.dense_blocks.specs.FieldLaws.{IsField}
use Rattle.dense_blocks.specs.Vectors.{IsVector}
use Rattle.dense_blocks.specs.Matrices.{image_of}
use Rattle.dense_blocks.specs.MatrixFacts.{IsInverse}
use Rattle.dense_blocks.specs.LinearMaps.{IsMatrixOf}
use Rattle.dense_blocks.specs.Blocks.{matrix_of}
use Rattle.dense_blocks.specs.declared.block.Block.{Block}
use Rattle.dense_blocks.proofs.LinearMaps.{one_matrix}
use Rattle.dense_blocks.proofs.Cutting.{flat, flat-cut}
use Rattle.dense_blocks.proofs.SameBlocks.{same_block}
use Rattle.cochain_vec.specs.Complexes.{CellularComplex, coordinates, coboundary}
use Rattle.cochain_vec.specs.Cohomology.{IsBasis, AreDimensions}
use Rattle.cochain_vec.proofs.DimensionLaws.{dimensions_agree}
use Rattle.block_complexes.specs.BlockComplexes.{BlockComplex, IsBlockComplex, HaveSameMatrices, size_of}
use Rattle.block_complexes.specs.Cochains.{complex_of}
use Rattle.block_complexes.proofs.SameLaws.{with-live, same-sym, same-trans, same-complex, same-block_complex}
use Rattle.removals.specs.Reductions.{IsAfter, IsInvertibleAt}
use Rattle.removals.proofs.ReductionLaws.{after-same-before, removals_leave_one}
use Rattle.equivalence_laws.specs.Composites.{IsCompositeOfPairs}
use Rattle.equivalence_laws.specs.Laws.{AreSameMatrices}
use Rattle.equivalence_laws.proofs.CompositeLaws.{complex_fits}
use Rattle.equivalence_laws.proofs.ReductionLaws.{pairs_tell_composite}
use Rattle.coboundary.specs.Start.{start_complex}
use Rattle.coboundary.proofs.LiveLaws.{numbered_cells-rising}
use Rattle.coboundary.proofs.StartCoboundaryLaws.{start_is_block_complex, start_has_the_coboundary}
use Rattle.coboundary.proofs.StartCoboundaryLaws.{start_has_the_cohomology}
use Rattle.sheaf_data.specs.Arrows.{numbered_cells}
use Rattle.sheaf_data.specs.Sheaves.{SheafData}
use Rattle.sheaf_data.specs.Betti.{cochain_complex_of, degree_count}
use Rattle.sheaf_words.specs.declared.query.Query.{Query}
use Rattle.sheaf_words.specs.declared.query.Query.TheVariants as queries
use Rattle.sheaf_words.specs.declared.reply.Reduced.{Reduced}
use Rattle.sheaf_words.specs.declared.reply.Maps.{Maps}
use Rattle.sheaf_words.specs.declared.reply.Reply.{Reply as Answer}
use Rattle.sheaf_words.specs.declared.reply.Reply.TheVariants as replies
use Rattle.core_machine.specs.Replies.{Reduction, AreGradedBlocks, IsRightReduced, AreRightMaps}
use Rattle.equivalence_laws.specs.Equivalences.{graded_matrix}
use Rattle.core_machine.specs.Replies.{vertex_size, IsRightClass, IsRightExtension, IsRightReply}
use Rattle.core_machine.specs.Machine.{State, IsReductionOf}
use Rattle.core_machine.specs.Rights.{IsRightForStart}
use Rattle.core_machine.specs.Solo.{Final, IsFinal, HasSoloChoices}
use Rattle.core_machine.proofs.SheafLaws.{IsVersion}
use Rattle.core_machine.proofs.ClassLaws.{AreAlike, start-cells, right-over, one-class}
use Rattle.core_machine.proofs.ExtensionLaws.{size-over, extension-over, one-extension, one-section, one-obstruction}
use Rattle.core_machine.proofs.FinalLaws.{AreSameReductions, AreSameFinals, one-final, one-vectors, one-primitive}

-- ---- the start complex and the whole one

start-is : {F : Type 0} (K : Ops) (s : State F) (v : ℕ) (r : Reduction) → IsField K → (h : IsReductionOf K s v r)
    → IsVersion K h.sheaf → IsBlockComplex K r.start
start-is K s v r field h is =
    let d = h.sheaf in
    same-block_complex K (start_complex K d.complex d.stalks d.blocks) r.start h.start
    (start_is_block_complex K d.complex d.stalks d.blocks field is.complex is.sheaf)

same-bases : {F : Type 0} (K : Ops) (s : State F) (v : ℕ) (r : Reduction) → IsField K → (h : IsReductionOf K s v r)
    → IsVersion K h.sheaf → (k : ℕ) (B : List (List ℕ)) → IsBasis K (complex_of r.start) k B ↔ IsBasis K r.whole k B
same-bases K s v r field h is k B =
    let d = h.sheaf in
    let start : BlockComplex = start_complex K d.complex d.stalks d.blocks in
    subst (λ C. IsBasis K C k B ↔ IsBasis K r.whole k B) (sym (same-complex start r.start h.start))
    (subst (λ W. IsBasis K (complex_of start) k B ↔ IsBasis K W k B) (sym h.whole)
    (start_has_the_cohomology K d.complex d.stalks d.blocks field is.complex is.sheaf k B))

-- the start complex is like the whole one
alike : {F : Type 0} (K : Ops) (s : State F) (v : ℕ) (r : Reduction) → IsField K → (h : IsReductionOf K s v r)
    → IsVersion K h.sheaf → AreAlike K (complex_of r.start) r.whole
alike K s v r field h is =
    let d = h.sheaf in
    let start : BlockComplex = start_complex K d.complex d.stalks d.blocks in
    let W : CellularComplex = cochain_complex_of K d.complex d.stalks d.blocks in
    let like : AreAlike K (complex_of start) W = record {
      same = start_has_the_coboundary K d.complex d.stalks d.blocks field is.complex is.sheaf;
      bases = λ j B. (start_has_the_cohomology K d.complex d.stalks d.blocks field is.complex is.sheaf j B).0;
      cells = λ j. start-cells j (numbered_cells 0 d.complex.dims d.stalks);
      rising = numbered_cells-rising 0 d.complex.dims d.stalks is.sheaf.one_each;
    } in
    subst (λ C. AreAlike K C r.whole) (sym (same-complex start r.start h.start))
    (subst (AreAlike K (complex_of start)) (sym h.whole) like)

dimensions-carried : (K : Ops) (C D : CellularComplex) (degrees : ℕ) (numbers : List ℕ)
    → ((k : ℕ) (B : List (List ℕ)) → IsBasis K C k B → IsBasis K D k B) → AreDimensions K C degrees numbers
    → AreDimensions K D degrees numbers
dimensions-carried K C D degrees numbers carry h = record {
  one_each = h.one_each;
  dimensions = λ k l. let b = h.dimensions k l in (b.0, b.1, carry k b.0 b.2);
}

reduced-elsewhere : (K : Ops) (r : Reduction) (C : CellularComplex) (reply : Reduced)
    → IsRightReduced K (record r { whole = C }) reply → IsRightReduced K r reply
reduced-elsewhere K r C reply h =
    record { pairs = h.pairs; live = h.live; shapes = h.shapes; matrices = h.matrices }

maps-elsewhere : (K : Ops) (r : Reduction) (C : CellularComplex) (maps : Maps)
    → AreRightMaps K (record r { whole = C }) maps → AreRightMaps K r maps
maps-elsewhere K r C maps h = record {
  base = h.base;
  pi_shapes = h.pi_shapes;
  iota_shapes = h.iota_shapes;
  h_shapes = h.h_shapes;
  equivalence = h.equivalence;
}

-- what is right for the start complex is right for the version
pub right-for : {F : Type 0} (K : Ops) (s : State F) (v : ℕ) (r : Reduction) (query : Query) (reply : Answer)
    → IsField K → (h : IsReductionOf K s v r) → IsVersion K h.sheaf → IsRightForStart K r query reply
    → IsRightReply K r query reply
right-for K s v r queries.Betti (replies.Betti numbers) field h is right =
    dimensions-carried K (complex_of r.start) r.whole r.degrees numbers
    (λ k B. (same-bases K s v r field h is k B).0) right
right-for K s v r queries.Reduce (replies.Reduce reply) field h is right =
    reduced-elsewhere K r (complex_of r.start) reply right
right-for K s v r queries.Equiv (replies.Equiv reply maps) field h is right =
    (reduced-elsewhere K r (complex_of r.start) reply right.0, maps-elsewhere K r (complex_of r.start) maps right.1)
right-for K s v r (queries.Basis k) (replies.Basis j vectors) field h is right =
    (right.0, (same-bases K s v r field h is k vectors).0 right.1)
right-for K s v r (queries.Class k z) reply field h is right =
    right-over K (complex_of r.start) r.whole (alike K s v r field h is) k z reply right
right-for K s v r queries.Sections (replies.Sections vectors) field h is right =
    (same-bases K s v r field h is 0 vectors).0 right
right-for K s v r (queries.Extend e u) reply field h is right =
    extension-over K (complex_of r.start) r.whole (alike K s v r field h is) e u reply right
right-for K s v r query reply field h is right = absurd right

-- ---- one reduction

pub one-reduction : {F : Type 0} (K : Ops) (s : State F) (v : ℕ) (r q : Reduction) → IsField K
    → (h : IsReductionOf K s v r) → IsVersion K h.sheaf → IsReductionOf K s v q → AreSameReductions r q
one-reduction {F} K s v r q field h is k = record {
  whole = k.whole ∙ ap (λ (d : SheafData F). cochain_complex_of K d.complex d.stalks d.blocks) sheaf ∙ sym h.whole;
  degrees = k.degrees ∙ ap (λ (d : SheafData F). degree_count d.complex.dims) sheaf ∙ sym h.degrees;
  start = start;
  pairs = pairs;
  rest = removals_leave_one K r.start r.rest q.rest r.pairs field (start-is K s v r field h is) h.rest
      (after-same-before K q.start r.start q.rest r.pairs (same-sym r.start q.start start)
      (subst (λ ps. IsAfter K q.start ps q.rest) pairs k.rest));
}
  where
    sheaf : k.sheaf ≡ h.sheaf
    sheaf = same_Some k.sheaf h.sheaf (sym k.version ∙ h.version)

    start_of : SheafData F → BlockComplex
    start_of d = start_complex K d.complex d.stalks d.blocks

    start : HaveSameMatrices r.start q.start
    start = same-trans r.start (start_of h.sheaf) q.start (same-sym (start_of h.sheaf) r.start h.start)
        (subst (λ (d : SheafData F). HaveSameMatrices (start_of d) q.start) sheaf k.start)

    pairs : q.pairs ≡ r.pairs
    pairs = same_Some q.pairs r.pairs (sym k.removed ∙ h.removed)

-- the same pairs may be removed from the same block complexes
pub same-invertible : (K : Ops) (v w : BlockComplex) (x y : ℕ) → HaveSameMatrices v w → IsInvertibleAt K v x y
    → IsInvertibleAt K w x y
same-invertible K v w x y h is = with-live (λ w. IsInvertibleAt K w x y) w v.live h.live (
  is.0,
  record {
    pair = is.1.pair;
    square = is.1.square;
    inverse = subst (λ A. IsInverse K (size_of v.live x) A is.0)
        (sym (h.matrices x y (record { from = is.1.pair.from; to = is.1.pair.to }))) is.1.inverse;
  },
)

-- ---- one reply

block-same : (b c : Block) → b.rows ≡ c.rows → b.cols ≡ c.cols → matrix_of b ≡ matrix_of c → b ≡ c
block-same b c rows cols e = same_block b c rows cols
    (sym (flat-cut b.rows b.cols b.entries b.full) ∙ ap flat e ∙ flat-cut c.rows c.cols c.entries c.full)

graded-tail : (d : ℕ) (m n : ℕ → ℕ) (b : Block) (bs : List Block) → AreGradedBlocks d m n (b ∷ bs)
    → AreGradedBlocks (length bs) (λ k. m (suc k)) (λ k. n (suc k)) bs
graded-tail d m n b bs h = record {
  one_each = refl;
  rows = λ k x at. h.rows (suc k) x at;
  columns = λ k x at. h.columns (suc k) x at;
}

blocks-same : (d : ℕ) (m n : ℕ → ℕ) (bs cs : List Block) → AreGradedBlocks d m n bs → AreGradedBlocks d m n cs
    → ((k : ℕ) → graded_matrix bs k ≡ graded_matrix cs k) → bs ≡ cs
blocks-same d m n [] [] h k e = refl
blocks-same d m n [] (c ∷ cs) h k e = absurd (omega (arith, h.one_each, k.one_each))
blocks-same d m n (b ∷ bs) [] h k e = absurd (omega (arith, h.one_each, k.one_each))
blocks-same d m n (b ∷ bs) (c ∷ cs) h k e =
    let sizes : length cs ≡ length bs = omega (arith, h.one_each, k.one_each) in
    ap₂ (λ x xs. x ∷ xs)
    (block-same b c (h.rows zero b refl ∙ sym (k.rows zero c refl))
    (h.columns zero b refl ∙ sym (k.columns zero c refl))
    (e zero))
    (blocks-same (length bs) (λ j. m (suc j)) (λ j. n (suc j)) bs cs (graded-tail d m n b bs h)
    (subst (λ l. AreGradedBlocks l (λ j. m (suc j)) (λ j. n (suc j)) cs) sizes (graded-tail d m n c cs k))
    (λ j. e (suc j)))

graded-same : (d d' : ℕ) (m m' n n' : ℕ → ℕ) (bs : List Block) → d' ≡ d → m' ≡ m → n' ≡ n
    → AreGradedBlocks d' m' n' bs → AreGradedBlocks d m n bs
graded-same d d' m m' n n' bs e f g h =
    subst (λ k. AreGradedBlocks k m n bs) e (subst (λ k. AreGradedBlocks d' k n bs) f
    (subst (λ k. AreGradedBlocks d' m' k bs) g h))

one-reduced : (K : Ops) (r q : Reduction) (x y : Reduced) → IsField K → AreSameReductions r q → IsRightReduced K r x
    → IsRightReduced K q y → x ≡ y
one-reduced K r q x y field same h k = λ i. record {
  pairs = (h.pairs ∙ sym same.pairs ∙ sym k.pairs) i;
  live = (h.live ∙ sym same.rest.live ∙ sym k.live) i;
  d = blocks i;
}
  where
    complexes : complex_of q.rest ≡ complex_of r.rest
    complexes = same-complex r.rest q.rest same.rest

    blocks : x.d ≡ y.d
    blocks = blocks-same r.degrees (λ j. coordinates (complex_of r.rest) (suc j)) (coordinates (complex_of r.rest))
        x.d y.d h.shapes
        (graded-same r.degrees q.degrees (λ j. coordinates (complex_of r.rest) (suc j))
        (λ j. coordinates (complex_of q.rest) (suc j)) (coordinates (complex_of r.rest))
        (coordinates (complex_of q.rest)) y.d same.degrees (ap (λ C j. coordinates C (suc j)) complexes)
        (ap coordinates complexes) k.shapes)
        (λ j. one_matrix K field (coordinates (complex_of r.rest) (suc j)) (coordinates (complex_of r.rest) j)
        (coboundary K (complex_of r.rest) j) (graded_matrix x.d j) (graded_matrix y.d j) (h.matrices j)
        (subst (λ C. IsMatrixOf K (coordinates C (suc j)) (coordinates C j) (coboundary K C j) (graded_matrix y.d j))
        complexes (k.matrices j)))

one-maps : (K : Ops) (r q : Reduction) (x y : Maps) → IsField K → IsBlockComplex K r.start → AreSameReductions r q
    → AreRightMaps K r x → AreRightMaps K q y
    → IsCompositeOfPairs K r.start r.pairs (graded_matrix x.pi) (graded_matrix x.iota) (graded_matrix x.h)
    → IsCompositeOfPairs K q.start q.pairs (graded_matrix y.pi) (graded_matrix y.iota) (graded_matrix y.h) → x ≡ y
one-maps K r q x y field is same h k a b = λ i. record {
  base = (h.base ∙ sym same.start.live ∙ sym k.base) i;
  pi = pi i;
  iota = iota i;
  h = homotopy i;
}
  where
    rests : coordinates (complex_of q.rest) ≡ coordinates (complex_of r.rest)
    rests = ap coordinates (same-complex r.rest q.rest same.rest)

    starts : complex_of q.start ≡ complex_of r.start
    starts = same-complex r.start q.start same.start

    matrices : AreSameMatrices (graded_matrix x.pi) (graded_matrix x.iota) (graded_matrix x.h)
        (graded_matrix y.pi) (graded_matrix y.iota) (graded_matrix y.h)
    matrices = pairs_tell_composite K r.start q.start r.pairs (graded_matrix x.pi) (graded_matrix x.iota)
        (graded_matrix x.h) (graded_matrix y.pi) (graded_matrix y.iota) (graded_matrix y.h) field is same.start a
        (subst (λ ps. IsCompositeOfPairs K q.start ps (graded_matrix y.pi) (graded_matrix y.iota) (graded_matrix y.h))
        same.pairs b)

    pi : x.pi ≡ y.pi
    pi = blocks-same r.degrees (coordinates (complex_of r.rest)) (coordinates (complex_of r.start)) x.pi y.pi
        h.pi_shapes
        (graded-same r.degrees q.degrees (coordinates (complex_of r.rest)) (coordinates (complex_of q.rest))
        (coordinates (complex_of r.start)) (coordinates (complex_of q.start)) y.pi same.degrees rests
        (ap coordinates starts) k.pi_shapes)
        (λ j. (matrices j).0)

    iota : x.iota ≡ y.iota
    iota = blocks-same r.degrees (coordinates (complex_of r.start)) (coordinates (complex_of r.rest)) x.iota y.iota
        h.iota_shapes
        (graded-same r.degrees q.degrees (coordinates (complex_of r.start)) (coordinates (complex_of q.start))
        (coordinates (complex_of r.rest)) (coordinates (complex_of q.rest)) y.iota same.degrees (ap coordinates starts)
        rests k.iota_shapes)
        (λ j. (matrices j).1)

    homotopy : x.h ≡ y.h
    homotopy = blocks-same r.degrees (coordinates (complex_of r.start))
        (λ j. coordinates (complex_of r.start) (suc j)) x.h y.h h.h_shapes
        (graded-same r.degrees q.degrees (coordinates (complex_of r.start)) (coordinates (complex_of q.start))
        (λ j. coordinates (complex_of r.start) (suc j)) (λ j. coordinates (complex_of q.start) (suc j)) y.h same.degrees
        (ap coordinates starts) (ap (λ C j. coordinates C (suc j)) starts) k.h_shapes)
        (λ j. (matrices j).2)

-- a version that is a sheaf has one list of Betti numbers
pub one-betti : {F : Type 0} (K : Ops) (d : SheafData F) (degrees : ℕ) (m n : List ℕ) → IsField K → IsVersion K d
    → AreDimensions K (cochain_complex_of K d.complex d.stalks d.blocks) degrees m
    → AreDimensions K (cochain_complex_of K d.complex d.stalks d.blocks) degrees n → m ≡ n
one-betti K d degrees m n field is a b =
    let start : BlockComplex = start_complex K d.complex d.stalks d.blocks in
    let W : CellularComplex = cochain_complex_of K d.complex d.stalks d.blocks in
    let carry : (k : ℕ) (B : List (List ℕ)) → IsBasis K W k B → IsBasis K (complex_of start) k B =
    λ k B. (start_has_the_cohomology K d.complex d.stalks d.blocks field is.complex is.sheaf k B).1 in
    (dimensions_agree K (complex_of start) field (complex_fits K field start
    (start_is_block_complex K d.complex d.stalks d.blocks field is.complex is.sheaf))).1 degrees m n
    (dimensions-carried K W (complex_of start) degrees m carry a)
    (dimensions-carried K W (complex_of start) degrees n carry b)

module _ {F : Type 0} (K : Ops) (s : State F) (v : ℕ) (r q : Reduction) (field : IsField K) (h : IsReductionOf K s v r)
    (is : IsVersion K h.sheaf) (same : AreSameReductions r q) where
  finals : (f g : Final) → IsFinal K r f → IsFinal K q g → AreSameFinals f g
  finals f g a b = one-final K field r q f g (start-is K s v r field h is) h.rest same a b

  -- the class of a cocycle is told by the maps to the end
  class-told : (k : ℕ) (z : List ℕ) (i j : ℕ) (a c : List ℕ) (b d : List (List ℕ)) (p t : List ℕ)
      → HasSoloChoices K r (queries.Class k z) (replies.Class i a b p)
      → HasSoloChoices K q (queries.Class k z) (replies.Class j c d t) → (a ≡ c) × (b ≡ d) × (p ≡ t)
  class-told k z i j a c b d p t x y =
      let f = finals x.0 y.0 x.1 y.1 in (
        x.3 ∙ ap (λ A. image_of K A z) (f.maps k).0 ∙ sym y.3,
        one-vectors K x.0 y.0 f k b d x.2 y.2,
        x.4 ∙ one-primitive K x.0 y.0 f k z ∙ sym y.4,
      )

  -- a section is told by the vectors at the end, and so is an obstruction
  fits : (e : ℕ) (u : List ℕ) → IsVector K (vertex_size r.whole e) u
      → IsVector K (vertex_size (complex_of r.start) e) u
  fits e u = subst (λ n. IsVector K n u)
      (sym (size-over K (complex_of r.start) r.whole (alike K s v r field h is) e))

  section-told : (e : ℕ) (u : List ℕ) (i j : ℕ) (z w : List ℕ) → IsVector K (vertex_size r.whole e) u
      → HasSoloChoices K r (queries.Extend e u) (replies.Section i z)
      → HasSoloChoices K q (queries.Extend e u) (replies.Section j w) → z ≡ w
  section-told e u i j z w value x y =
      one-section K field r q same e u (fits e u value) x.0 y.0 x.2 (finals x.0 y.0 x.2 y.2) x.1 y.1 x.3 y.3 z w x.4
      y.4

  obstruction-told : (e : ℕ) (u : List ℕ) (i j : ℕ) (p t : List ℕ) → IsVector K (vertex_size r.whole e) u
      → HasSoloChoices K r (queries.Extend e u) (replies.NoSection i p)
      → HasSoloChoices K q (queries.Extend e u) (replies.NoSection j t) → p ≡ t
  obstruction-told e u i j p t value x y =
      one-obstruction K field r q same e u (fits e u value) x.0 y.0 x.2 (finals x.0 y.0 x.2 y.2) x.1 y.1 x.3 y.3 p t
      x.4 y.4

  -- two right replies to a question on a version are the same, where their choices are those of a solo order
  pub one-reply : (query : Query) (x y : Answer) → IsRightReply K r query x → HasSoloChoices K r query x
      → IsRightReply K q query y → HasSoloChoices K q query y → x ≡ y
  one-reply queries.Betti (replies.Betti m) (replies.Betti n) a c b d =
      ap replies.Betti (one-betti K h.sheaf r.degrees m n field is
      (subst (λ W. AreDimensions K W r.degrees m) h.whole a)
      (subst (λ W. AreDimensions K W r.degrees n) (same.whole ∙ h.whole)
      (subst (λ e. AreDimensions K q.whole e n) same.degrees b)))
  one-reply queries.Betti (replies.Betti m) y a c b d = absurd b
  one-reply queries.Reduce (replies.Reduce x) (replies.Reduce y) a c b d =
      ap replies.Reduce (one-reduced K r q x y field same a b)
  one-reply queries.Reduce (replies.Reduce x) y a c b d = absurd b
  one-reply queries.Equiv (replies.Equiv x u) (replies.Equiv y w) a c b d =
      ap₂ replies.Equiv (one-reduced K r q x y field same a.0 b.0)
      (one-maps K r q u w field (start-is K s v r field h is) same a.1 b.1 c d)
  one-reply queries.Equiv (replies.Equiv x u) y a c b d = absurd b
  one-reply (queries.Basis k) (replies.Basis i x) (replies.Basis j y) a c b d =
      ap₂ replies.Basis (a.0 ∙ sym b.0) (one-vectors K c.0 d.0 (finals c.0 d.0 c.1 d.1) k x y c.2 d.2)
  one-reply (queries.Basis k) (replies.Basis i x) y a c b d = absurd b
  one-reply (queries.Class k z) x y a c b d =
      one-class K r.whole k z x y a (subst (λ W. IsRightClass K W k z y) same.whole b)
      (λ i j o e l m p t is_x is_y. class-told k z i j o e l m p t
      (subst (HasSoloChoices K r (queries.Class k z)) is_x c)
      (subst (HasSoloChoices K q (queries.Class k z)) is_y d))
  one-reply queries.Sections (replies.Sections x) (replies.Sections y) a c b d =
      ap replies.Sections (one-vectors K c.0 d.0 (finals c.0 d.0 c.1 d.1) 0 x y c.2 d.2)
  one-reply queries.Sections (replies.Sections x) y a c b d = absurd b
  one-reply (queries.Extend e u) x y a c b d =
      one-extension K r.whole e u x y a (subst (λ W. IsRightExtension K W e u y) same.whole b)
      (λ i j z w value is_x is_y. section-told e u i j z w value
      (subst (HasSoloChoices K r (queries.Extend e u)) is_x c)
      (subst (HasSoloChoices K q (queries.Extend e u)) is_y d))
      (λ i j p t value is_x is_y. obstruction-told e u i j p t value
      (subst (HasSoloChoices K r (queries.Extend e u)) is_x c)
      (subst (HasSoloChoices K q (queries.Extend e u)) is_y d))
  one-reply query x y a c b d = absurd a
