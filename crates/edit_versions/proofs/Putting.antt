-- What it does to put blocks at faces.
use Rattle.std.proofs.Common.{◌≡◌, ℕ, zero, suc, ◌+◌, ◌*◌, ◌<◌, Bool, true, false, ◌||◌, nat_eq, List, [], ◌∷◌, ◌++◌}
use Rattle.std.proofs.Common.{length, map, get_or, set, take, slice_get, slice_index, Result, Ok, Err, OnOk, All, refl}
use Rattle.std.proofs.Common.{sym, ap, ap₂, ◌∙◌, subst}
use Rattle.std.specs.List.{list_any}
use Rattle.std.proofs.lemmas.Bool.{both_ways, and_parts, and_from, eqb-true, eq-eqb}
use Rattle.std.proofs.lemmas.List.{length-map}
use Rattle.std.proofs.lemmas.List.Elements.{All-nil, All-push}
use Rattle.std.proofs.lemmas.List.Folds.{list_any_more, list_any-append}
use Rattle.cell_complex.specs.declared.face.Face.{Face}
use Rattle.cell_complex.specs.Complexes.{CellComplex, joins}
use Rattle.cell_complex.specs.Invariants.{IsComplex}
use Rattle.dense_blocks.specs.declared.block.Block.{Block}
use Rattle.dense_blocks.specs.Vectors.{zeros}
use Rattle.dense_blocks.specs.MatrixFacts.{zero_matrix}
use Rattle.dense_blocks.specs.BlockFacts.{IsBlock}
use Rattle.dense_blocks.proofs.Cutting.{flat-zero_matrix}
use Rattle.dense_blocks.proofs.BlockLaws.{is_block-entries}
use Rattle.cell_complex.proofs.Places.{IsPlaced}
use Rattle.edit_versions.specs.declared.work.Work.{Work}
use Rattle.dense_blocks.specs.Blocks.{WrittenMatrix, written_matrix}
use Rattle.edit_versions.specs.Works.{IsTouched, Puts, is_from, is_to, zero_between, zero_at, with_replacements}
use Rattle.edit_versions.proofs.Replacing.{replaced-one, replaced-none, replaced-same, replaced-agree}
use Rattle.edit_versions.proofs.Replacing.{replaced-replaced, length-replaced}

map-set : {X Y : Type 0} (h : X → Y) (xs : List X) (i : ℕ) (x : X) → map h (set xs i x) ≡ set (map h xs) i (h x)
map-set h [] i x = refl
map-set h (y ∷ xs) zero x = refl
map-set h (y ∷ xs) (suc i) x = ap (λ rest. h y ∷ rest) (map-set h xs i x)

slice_get-set : {X : Type 0} (xs : List X) (i k : ℕ) (x : X) → nat_eq k i ≡ false → slice_get (set xs i x) k
    ≡ slice_get xs k
slice_get-set [] i k x h = refl
slice_get-set (y ∷ xs) zero zero x h = absurd (both_ways (nat_eq zero zero) h (eq-eqb 0 0 refl))
slice_get-set (y ∷ xs) zero (suc k) x h = refl
slice_get-set (y ∷ xs) (suc i) zero x h = refl
slice_get-set (y ∷ xs) (suc i) (suc k) x h = slice_get-set xs i k x (by (nat_eq k i) refl)
  where
    by : (b : Bool) → nat_eq k i ≡ b → b ≡ false
    by true e = absurd (both_ways (nat_eq (suc k) (suc i)) h (eq-eqb (suc k) (suc i) (ap suc (eqb-true k i e))))
    by false e = refl

-- one block put at the place of a face
pub put-one : (c : CellComplex) → IsComplex c → (s t : ℕ) (p : IsPlaced c s t) (b : Block) (old new : Work)
    → length old.blocks.items ≡ length c.faces
    → new.stalks.items ≡ old.stalks.items → new.blocks.items ≡ set old.blocks.items p.at b
    → new.touched.items ≡ old.touched.items ++ p.at ∷ []
    → Puts c (joins s t) (λ f. written_matrix b) old new
put-one c h s t p b old new count stalks blocks touched =
    record {
      stalks = stalks;
      matrices =
          ap (map written_matrix) blocks ∙ map-set written_matrix old.blocks.items p.at b
          ∙ replaced-one s t (written_matrix b) c.faces (map written_matrix old.blocks.items) p.at p.face
          (sym (length-map old.blocks.items written_matrix ∙ count)) h.apart p.found
          (and_from (nat_eq s p.face.s) (nat_eq t p.face.t) (eq-eqb s p.face.s (sym p.from))
          (eq-eqb t p.face.t (sym p.to)));
      touched = λ start w. record {
        faces = subst (All (λ q. q < length c.faces)) (sym touched)
            (All-push (λ q. q < length c.faces) old.touched.items p.at w.faces p.inside);
        others = λ q away. by start w q
            (sym (ap (list_any (nat_eq q)) touched ∙ list_any-append (nat_eq q) old.touched.items (p.at ∷ [])) ∙ away);
      };
    }
  where
    or-parts : (x y : Bool) → (x || (y || false)) ≡ false → (x ≡ false) × (y ≡ false)
    or-parts true y e = absurd (both_ways true e refl)
    or-parts false true e = absurd (both_ways true e refl)
    or-parts false false e = (refl, refl)

    by : (start : List Block) → IsTouched c start old → (q : ℕ)
        → (list_any (nat_eq q) old.touched.items || (nat_eq q p.at || false)) ≡ false
        → slice_get start q ≡ slice_get new.blocks.items q
    by start w q away =
        let parts = or-parts (list_any (nat_eq q) old.touched.items) (nat_eq q p.at) away in
        w.others q parts.0 ∙ sym (ap (λ bs. slice_get bs q) blocks ∙ slice_get-set old.blocks.items p.at q b parts.1)

-- a put changes no number of blocks
pub puts-count : (c : CellComplex) (p : Face → Bool) (make : Face → WrittenMatrix) (old new : Work)
    → length old.blocks.items ≡ length c.faces
    → Puts c p make old new → length new.blocks.items ≡ length c.faces
puts-count c p make old new count h =
    sym (length-map new.blocks.items written_matrix) ∙ ap length h.matrices
    ∙ length-replaced p make c.faces (map written_matrix old.blocks.items)
    (sym (length-map old.blocks.items written_matrix ∙ count))
    ∙ length-map old.blocks.items written_matrix ∙ count

pub puts-none : (c : CellComplex) (p : Face → Bool) (make : Face → WrittenMatrix) (w : Work) → length w.blocks.items
    ≡ length c.faces
    → ((f : Face) → p f ≡ false) → Puts c p make w w
puts-none c p make w count none =
    record {
      stalks = refl;
      matrices = sym (replaced-none p make c.faces (map written_matrix w.blocks.items)
          (sym (length-map w.blocks.items written_matrix ∙ count)) (λ k d l. none (get_or c.faces k d)));
      touched = λ start h. h;
    }

pub puts-same : (c : CellComplex) (p q : Face → Bool) (make : Face → WrittenMatrix) (old new : Work)
    → All (λ f. p f ≡ q f) c.faces
    → Puts c p make old new → Puts c q make old new
puts-same c p q make old new same h =
    record {
      stalks = h.stalks;
      matrices = h.matrices ∙ replaced-same p q make c.faces (map written_matrix old.blocks.items) same;
      touched = h.touched;
    }

pub puts-agree : (c : CellComplex) (p : Face → Bool) (make again : Face → WrittenMatrix) (old new : Work)
    → ((f : Face) → p f ≡ true → make f ≡ again f)
    → Puts c p make old new → Puts c p again old new
puts-agree c p make again old new agree h =
    record {
      stalks = h.stalks;
      matrices = h.matrices ∙ replaced-agree p make again c.faces (map written_matrix old.blocks.items) agree;
      touched = h.touched;
    }

-- puts at the faces of two tests, one after the other
pub puts-puts : (c : CellComplex) (p q : Face → Bool) (make : Face → WrittenMatrix) (old mid new : Work)
    → Puts c p make old mid → Puts c q make mid new → Puts c (λ f. p f || q f) make old new
puts-puts c p q make old mid new g h =
    record {
      stalks = h.stalks ∙ g.stalks;
      matrices =
          h.matrices ∙ ap (with_replacements q make c.faces) g.matrices
          ∙ replaced-replaced p q make make c.faces (map written_matrix old.blocks.items) (λ f e. refl);
      touched = λ start w. h.touched start (g.touched start w);
    }

-- one face more to a cell
pub puts-from-more : (c : CellComplex) (make : Face → WrittenMatrix) (below : List ℕ) (t i : ℕ) (old mid new : Work) → i
    < length below
    → Puts c (is_from (take i below) t) make old mid → Puts c (joins (get_or below i 0) t) make mid new
    → Puts c (is_from (take (i + 1) below) t) make old new
puts-from-more c make below t i old mid new l g h =
    puts-same c (λ f. is_from (take i below) t f || joins (get_or below i 0) t f) (is_from (take (i + 1) below) t) make
    old new
    (λ k d m. sym (list_any_more (λ q. joins q t (get_or c.faces k d)) below i 0 l))
    (puts-puts c (is_from (take i below) t) (joins (get_or below i 0) t) make old mid new g h)

-- one face more from a cell
pub puts-to-more : (c : CellComplex) (make : Face → WrittenMatrix) (above : List ℕ) (s i : ℕ) (old mid new : Work) → i
    < length above
    → Puts c (is_to (take i above) s) make old mid → Puts c (joins s (get_or above i 0)) make mid new
    → Puts c (is_to (take (i + 1) above) s) make old new
puts-to-more c make above s i old mid new l g h =
    puts-same c (λ f. is_to (take i above) s f || joins s (get_or above i 0) f) (is_to (take (i + 1) above) s) make old
    new
    (λ k d m. sym (list_any_more (λ q. joins s q (get_or c.faces k d)) above i 0 l))
    (puts-puts c (is_to (take i above) s) (joins s (get_or above i 0)) make old mid new g h)

-- the zero matrix between two cells is that of the face that joins them
pub zero-joined : (stalks : List ℕ) (s t : ℕ) (f : Face) → joins s t f ≡ true → zero_between stalks s t
    ≡ zero_at stalks f
zero-joined stalks s t f e =
    let p = and_parts (nat_eq s f.s) (nat_eq t f.t) e in
    ap₂ (zero_between stalks) (eqb-true s f.s p.0) (eqb-true t f.t p.1)

pub same-written : (b : Block) (m n : ℕ) (entries : List ℕ) → b.rows ≡ m → b.cols ≡ n → b.entries ≡ entries
    → written_matrix b ≡ record { rows = m; cols = n; entries = entries }
same-written b m n entries e f g = ap₂ (λ r k. record { rows = r; cols = k; entries = b.entries }) e f
    ∙ ap (λ xs. record { rows = m; cols = n; entries = xs }) g

-- the zero block is the zero matrix
pub zero-written : (stalks : List ℕ) (s t m n : ℕ) (b : Block) → IsBlock b m n (zero_matrix m n)
    → m ≡ slice_index stalks t → n ≡ slice_index stalks s
    → written_matrix b ≡ zero_between stalks s t
zero-written stalks s t m n b h e f =
    same-written b (slice_index stalks t) (slice_index stalks s) (zeros (slice_index stalks t * slice_index stalks s))
    (h.rows_are ∙ e) (h.columns_are ∙ f)
    (is_block-entries b m n (zero_matrix m n) h ∙ flat-zero_matrix m n ∙ ap₂ (λ x y. zeros (x * y)) e f)

-- what follows from a fact on success follows on success
pub on_ok : {A E : Type 0} (r : Result A E) (P Q : Type 0) → OnOk r P → (P → Q) → OnOk r Q
on_ok (Ok x) P Q h f = f h
on_ok (Err e) P Q h f = h

-- at the start none is touched
pub touched-none : (c : CellComplex) (start : List Block) (w : Work) → w.blocks.items ≡ start → w.touched.items ≡ []
    → IsTouched c start w
touched-none c start w e none = record {
  faces = subst (All (λ p. p < length c.faces)) (sym none) (All-nil (λ p. p < length c.faces));
  others = λ p away. ap (λ bs. slice_get bs p) (sym e);
}
