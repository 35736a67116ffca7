use Rattle.std.proofs.Common.{◌≡◌, ℕ, List, length, take, Some, get_or, sym, ap, ◌∙◌, subst, subst₂, arith}
use Rattle.std.proofs.lemmas.List.{take_all, length-take-le}
use Rattle.std.proofs.lemmas.Option.{slice_get-get_or}
use Rattle.cell_complex.specs.declared.face.Sign.TheVariants.{Plus}
use Rattle.cell_complex.specs.declared.face.Face.{Face}
use Rattle.cell_complex.specs.Complexes.{CellComplex}
use Rattle.cell_complex.specs.Invariants.{IsComplex}
use Rattle.cell_complex.specs.Verdicts.{face_fault}
use Rattle.cell_complex.specs.Builds.{AllAccepted, IsFirstFault, with_first_faces}
use Rattle.cell_complex.proofs.Faults.{accepted-complex, first_fault}
use Rattle.cell_complex.proofs.complex.Complex.build.Goals as goal

pub returns-in-Some-clause-refused : goal.returns-in-Some-clause-refused
returns-in-Some-clause-refused c at fault e =
    let dims : List ℕ = c.args.dims.now in
    let faces : List Face = c.args.faces.now in
    let n : ℕ = c.loop-face.face-index in
    let first : CellComplex = with_first_faces dims faces n in
    let is : c.loop-face.complex ≡ first = c.loop-face.invariant.is in
    let none : Face = record { s = 0; t = 0; sign = Plus } in
    let face : Face = get_or faces n none in
    let answered : face_fault first face ≡ Some c.in-Some.fault = ap (λ all. face_fault all face) (sym is)
    ∙ sym c.in-Some.ensures in
    let here : IsFirstFault dims faces n c.in-Some.fault =
    first_fault dims faces n face c.in-Some.fault (subst IsComplex is c.loop-face.invariant.complex)
    (slice_get-get_or faces n none (omega arith)) answered in
    let size : length first.faces ≡ n = length-take-le n faces (omega arith) in
    let place : n ≡ at = sym (c.face_count-place.ensures.count ∙ ap (λ all. length all.faces) is ∙ size) ∙ cc in
    let same : c.in-Some.fault ≡ fault = cc in
    subst₂ (IsFirstFault dims faces) place same here

pub returns-clause-accepted : goal.returns-clause-accepted
returns-clause-accepted c =
    let faces : List Face = c.args.faces.now in
    let all : take c.loop-face.face-index faces ≡ faces = take_all c.loop-face.face-index faces (omega arith) in
    let complex : IsComplex (with_first_faces c.args.dims.now faces c.loop-face.face-index) =
    subst IsComplex c.loop-face.invariant.is c.loop-face.invariant.complex in
    subst (AllAccepted c.args.dims.now) all
    (accepted-complex (with_first_faces c.args.dims.now faces c.loop-face.face-index) complex)
