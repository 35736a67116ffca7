-- An equivalence carries bases of cohomology.
use Rattle.std.proofs.Common.{◌≡◌, ℕ, zero, suc, List, length, map, get_or, refl, sym, ap, ◌∙◌, subst}
use Rattle.std.proofs.lemmas.List.{length-map}
use Rattle.std.proofs.lemmas.List.Elements.{All-map}
use Rattle.dense_blocks.specs.Field.{Ops}
use Rattle.dense_blocks.specs.FieldLaws.{IsField}
use Rattle.dense_blocks.specs.Vectors.{IsVector, zeros, plus, combination}
use Rattle.dense_blocks.specs.Matrices.{image_of}
use Rattle.dense_blocks.specs.MatrixFacts.{identity}
use Rattle.dense_blocks.proofs.Shapes.{Vector, Matrix, to_vector, from_vector, to_matrix, matrix-size, matrix-rows}
use Rattle.dense_blocks.proofs.Shapes.{matrix_of_rows}
use Rattle.dense_blocks.proofs.VectorLaws.{plus-zeros, plus-assoc, combination-vector}
use Rattle.dense_blocks.proofs.MatrixLaws.{image_of-vector, image_of-plus, image_of-zeros, combination-identity}
use Rattle.dense_blocks.proofs.MatrixLaws.{identity-matrix}
use Rattle.dense_blocks.proofs.LinearMaps.{linear-combination, linear-image_of}
use Rattle.cochain_vec.specs.Complexes.{CellularComplex, coordinates, IsCochain}
use Rattle.cochain_vec.specs.Shapes.{RowsFit}
use Rattle.cochain_vec.specs.Cohomology.{IsCocycle, IsCoboundary, IsRepresented, IsBasis}
use Rattle.cochain_vec.proofs.DimensionLaws.{coboundary-vector, plus-coboundary, zeros-coboundary}
use Rattle.equivalence_laws.specs.Equivalences.{map_of, d_h, IsEquivalence, GradedMatrix}
use Rattle.equivalence_laws.specs.Bases.{HasNoCoboundary}
use Rattle.equivalence_laws.specs.Laws.{EquivalenceCarriesBases, UnitImagesAreBasis, CocyclesHaveCoordinates}

module _ (K : Ops) (F : IsField K) where
  module _ (C D : CellularComplex) (fits : RowsFit C) (fits_D : RowsFit D) (pi iota h : GradedMatrix)
      (e : IsEquivalence K C D pi iota h) where
    pi-matrix : (k : ℕ) → Matrix K (coordinates D k) (coordinates C k) (pi k)
    pi-matrix k = to_matrix K (coordinates D k) (coordinates C k) (pi k) (e.pi_shape k)

    iota-matrix : (k : ℕ) → Matrix K (coordinates C k) (coordinates D k) (iota k)
    iota-matrix k = to_matrix K (coordinates C k) (coordinates D k) (iota k) (e.iota_shape k)

    h-matrix : (k : ℕ) → Matrix K (coordinates C k) (coordinates C (suc k)) (h k)
    h-matrix k = to_matrix K (coordinates C k) (coordinates C (suc k)) (h k) (e.h_shape k)

    pi-cochain : (k : ℕ) (z : List ℕ) → IsCochain K D k (image_of K (pi k) z)
    pi-cochain k z = from_vector K (coordinates D k) (image_of K (pi k) z)
        (image_of-vector K F (coordinates D k) (coordinates C k) (pi k) z (pi-matrix k))

    iota-cochain : (k : ℕ) (z : List ℕ) → IsCochain K C k (image_of K (iota k) z)
    iota-cochain k z = from_vector K (coordinates C k) (image_of K (iota k) z)
        (image_of-vector K F (coordinates C k) (coordinates D k) (iota k) z (iota-matrix k))

    -- both maps send cocycles to cocycles, and coboundaries to coboundaries
    pi-cocycle : (k : ℕ) (z : List ℕ) → IsCocycle K C k z → IsCocycle K D k (image_of K (pi k) z)
    pi-cocycle k z c = record {
      cochain = pi-cochain k z;
      closed = sym (e.equations.pi_d k z c.cochain) ∙ ap (image_of K (pi (suc k))) c.closed
          ∙ image_of-zeros K F (coordinates C (suc k)) (coordinates D (suc k)) (coordinates C (suc k)) (pi (suc k))
          (pi-matrix (suc k));
    }

    iota-cocycle : (k : ℕ) (z : List ℕ) → IsCocycle K D k z → IsCocycle K C k (image_of K (iota k) z)
    iota-cocycle k z c = record {
      cochain = iota-cochain k z;
      closed = e.equations.d_iota k z c.cochain ∙ ap (image_of K (iota (suc k))) c.closed
          ∙ image_of-zeros K F (coordinates D (suc k)) (coordinates C (suc k)) (coordinates D (suc k)) (iota (suc k))
          (iota-matrix (suc k));
    }

    pi-coboundary : (k : ℕ) (z : List ℕ) → IsCoboundary K C k z → IsCoboundary K D k (image_of K (pi k) z)
    pi-coboundary zero z s = ap (image_of K (pi 0)) s
        ∙ image_of-zeros K F (coordinates C 0) (coordinates D 0) (coordinates C 0) (pi 0) (pi-matrix 0)
    pi-coboundary (suc k) z s = (
      image_of K (pi k) s.0,
      pi-cochain k s.0,
      ap (image_of K (pi (suc k))) s.2
          ∙ e.equations.pi_d k s.0 s.1,
    )

    iota-coboundary : (k : ℕ) (z : List ℕ) → IsCoboundary K D k z → IsCoboundary K C k (image_of K (iota k) z)
    iota-coboundary zero z s = ap (image_of K (iota 0)) s
        ∙ image_of-zeros K F (coordinates D 0) (coordinates C 0) (coordinates D 0) (iota 0) (iota-matrix 0)
    iota-coboundary (suc k) z s = (
      image_of K (iota k) s.0,
      iota-cochain k s.0,
      ap (image_of K (iota (suc k))) s.2
          ∙ sym (e.equations.d_iota k s.0 s.1),
    )

    d_h-coboundary : (k : ℕ) (z : List ℕ) → IsCoboundary K C k (d_h K C (map_of K h) k z)
    d_h-coboundary zero z = refl
    d_h-coboundary (suc k) z = (
      image_of K (h k) z,
      from_vector K (coordinates C k) (image_of K (h k) z)
          (image_of-vector K F (coordinates C k) (coordinates C (suc k)) (h k) z (h-matrix k)),
      refl,
    )

    -- a cocycle is the image of its image, plus a coboundary
    cocycle-parts : (k : ℕ) (z : List ℕ) → IsCocycle K C k z → z
        ≡ plus K (image_of K (iota k) (image_of K (pi k) z)) (d_h K C (map_of K h) k z)
    cocycle-parts k z c =
        let n = coordinates C k in
        let down : List ℕ = d_h K C (map_of K h) k z in
        e.equations.homotopy k z c.cochain
        ∙ ap (plus K (image_of K (iota k) (image_of K (pi k) z)))
        (ap (plus K down) (ap (image_of K (h k)) c.closed
        ∙ image_of-zeros K F (coordinates C (suc k)) n (coordinates C (suc k)) (h k) (h-matrix k))
        ∙ plus-zeros K F n down (coboundary-vector K F C fits k down (d_h-coboundary k z)))

    module _ (k : ℕ) where
      abbrev m : ℕ
      m = coordinates C k

      abbrev n : ℕ
      n = coordinates D k

      abbrev images : List (List ℕ) → List (List ℕ)
      images B = map (image_of K (iota k)) B

      image-combination : (B : List (List ℕ)) (c : List ℕ) → Matrix K (length B) n B
          → image_of K (iota k) (combination K n c B) ≡ combination K m c (images B)
      image-combination B c hb = linear-combination K F m n (image_of K (iota k))
          (linear-image_of K F m n (iota k) (iota-matrix k)) (length B) c B hb

      images-basis : (B : List (List ℕ)) → IsBasis K D k B → IsBasis K C k (images B)
      images-basis B b = record {
        cocycles = All-map (IsCocycle K C k) (image_of K (iota k)) B
            (λ i d l. iota-cocycle k (get_or B i d) (b.cocycles i d l));
        spans = spans;
        independent = λ c hc s.
            let hc' : IsVector K (length B) c = subst (λ j. IsVector K j c) (length-map B (image_of K (iota k))) hc in
            b.independent c hc'
            (subst (IsCoboundary K D k)
            (ap (image_of K (pi k)) (sym (image-combination B c rows))
            ∙ e.equations.pi_iota k (combination K n c B) (from_vector K n (combination K n c B)
            (combination-vector K F (length B) n c B rows)))
            (pi-coboundary k (combination K m c (images B)) s))
            ∙ ap zeros (sym (length-map B (image_of K (iota k))));
      }
        where
          rows : Matrix K (length B) n B
          rows = matrix_of_rows K (length B) n B refl (λ i d l. (b.cocycles i d l).cochain)

          spans : (z : List ℕ) → IsCocycle K C k z → IsRepresented K C k (images B) z
          spans z c =
              let r : IsRepresented K D k B (image_of K (pi k) z) = b.spans (image_of K (pi k) z) (pi-cocycle k z c) in
              let down : List ℕ = d_h K C (map_of K h) k z in
              let sum : List ℕ = combination K n r.coefficients B in
              record {
                coefficients = r.coefficients;
                one_each = subst (λ j. IsVector K j r.coefficients)
                    (sym (length-map B (image_of K (iota k)))) r.one_each;
                rest = plus K (image_of K (iota k) r.rest) down;
                is_coboundary = plus-coboundary K F C fits k (image_of K (iota k) r.rest) down
                    (iota-coboundary k r.rest r.is_coboundary) (d_h-coboundary k z);
                sum = cocycle-parts k z c
                    ∙ ap (λ u. plus K u down)
                    (ap (image_of K (iota k)) r.sum
                    ∙ image_of-plus K F n (iota k) sum r.rest (combination-vector K F
                    (length B) n r.coefficients B rows) (coboundary-vector K F D fits_D k r.rest r.is_coboundary)
                    ∙ ap (λ u. plus K u (image_of K (iota k) r.rest)) (image-combination B r.coefficients rows))
                    ∙ plus-assoc K F (combination K m r.coefficients (images B)) (image_of K (iota k) r.rest) down;
              }

      abbrev units : List (List ℕ)
      units = identity n

      units-size : length units ≡ n
      units-size = matrix-size K n n units (identity-matrix K F n)

      cocycle-combination : (z : List ℕ) → IsCocycle K C k z → z
          ≡ plus K (combination K m (image_of K (pi k) z) (images units)) (d_h K C (map_of K h) k z)
      cocycle-combination z c =
          let w : List ℕ = image_of K (pi k) z in
          cocycle-parts k z c
          ∙ ap (λ u. plus K u (d_h K C (map_of K h) k z))
          (ap (image_of K (iota k)) (sym (combination-identity K F n w (to_vector K n w (pi-cochain k z))))
          ∙ linear-combination K F m n (image_of K (iota k)) (linear-image_of K F m n (iota k) (iota-matrix k)) n w
          units
          (identity-matrix K F n))

  -- without a coboundary the unit vectors are a basis
  module _ (D : CellularComplex) (fits : RowsFit D) (none : HasNoCoboundary K D) where
    no_coboundary : (k : ℕ) (z : List ℕ) → IsCoboundary K D k z → z ≡ zeros (coordinates D k)
    no_coboundary zero z s = s
    no_coboundary (suc k) z s = s.2 ∙ none k s.0 s.1

    units-basis : (k : ℕ) → IsBasis K D k (identity (coordinates D k))
    units-basis k =
        let n = coordinates D k in
        let size : length (identity n) ≡ n = matrix-size K n n (identity n) (identity-matrix K F n) in
        record {
          cocycles = λ i d l.
              let hz = matrix-rows K n n (identity n) (identity-matrix K F n) i d l in
              record { cochain = hz; closed = none k (get_or (identity n) i d) hz };
          spans = λ z c. record {
            coefficients = z;
            one_each = subst (λ j. IsVector K j z) (sym size) c.cochain;
            rest = zeros n;
            is_coboundary = zeros-coboundary K F D fits k;
            sum = let hz = to_vector K n z c.cochain in
                sym (ap (λ u. plus K u (zeros n)) (combination-identity K F n z hz) ∙ plus-zeros K F n z hz);
          };
          independent = λ c hc s.
              sym (combination-identity K F n c (subst (λ j. Vector K j c) size
              (to_vector K (length (identity n)) c hc)))
              ∙ no_coboundary k (combination K n c (identity n)) s ∙ ap zeros (sym size);
        }

pub equivalence_carries_bases : EquivalenceCarriesBases
equivalence_carries_bases K C D pi iota h F fits fits_D e k B b = images-basis K F C D fits fits_D pi iota h e k B b

pub unit_images_are_basis : UnitImagesAreBasis
unit_images_are_basis K C D pi iota h F fits fits_D e none k =
    images-basis K F C D fits fits_D pi iota h e k (identity (coordinates D k)) (units-basis K F D fits_D none k)

pub cocycles_have_coordinates : CocyclesHaveCoordinates
cocycles_have_coordinates K C D pi iota h F fits fits_D e k z c =
    (cocycle-combination K F C D fits fits_D pi iota h e k z c, d_h-coboundary K F C D fits fits_D pi iota h e k z)
