-- Right replies to an extension: those for the start complex and those for the whole one, and that only one is right.
use Rattle.std.proofs.Common.{◌≡◌, ◌||◌, ◌<◌, ℕ, suc, Bool, true, false, cond, eqb, List, [], ◌∷◌, All, length}
use Rattle.std.proofs.Common.{filter, get_or, refl, sym, ap, ap₂, subst, ◌∙◌, arith}
use Rattle.std.specs.Prelude.{◌==◌}
use Rattle.std.proofs.lemmas.Bool.{eqb-true}
use Rattle.std.proofs.lemmas.List.{length-map}
use Rattle.std.proofs.lemmas.List.Elements.{All-map}
use Rattle.dense_blocks.specs.Field.{Ops}
use Rattle.dense_blocks.specs.FieldLaws.{IsField}
use Rattle.dense_blocks.specs.Vectors.{IsVector, zeros, dot, combination}
use Rattle.dense_blocks.specs.Matrices.{image_of}
use Rattle.dense_blocks.specs.MatrixFacts.{identity}
use Rattle.dense_blocks.proofs.Shapes.{Vector, to_vector, from_vector}
use Rattle.dense_blocks.proofs.Uniqueness.{one_leading_combination, one_leading_functional}
use Rattle.rising_lists.specs.Rising.{has}
use Rattle.cochain_vec.specs.declared.cell.Cell.{Cell}
use Rattle.cochain_vec.specs.Complexes.{CellularComplex, cells_of, coordinates, value_at, IsCochain}
use Rattle.cochain_vec.specs.Cohomology.{IsCocycle}
use Rattle.cochain_vec.specs.Stalkless.{HasRisingCells}
use Rattle.cochain_vec.proofs.CoboundaryLaws.{size_at, value-vector, image_of-rows}
use Rattle.cochain_vec.proofs.StalklessLaws.{has_coordinates, rising-filter}
use Rattle.block_complexes.specs.Cochains.{complex_of}
use Rattle.block_complexes.proofs.SameLaws.{same-complex}
use Rattle.cocycle_bases.specs.Classes.{numbers}
use Rattle.sections.specs.Extensions.{IsSectionWith, IsObstruction, section_values, IsLeadingSection}
use Rattle.sections.specs.Extensions.{IsLeadingObstruction}
use Rattle.sheaf_words.specs.declared.reply.Reply.{Reply as Answer}
use Rattle.sheaf_words.specs.declared.reply.Reply.TheVariants as replies
use Rattle.core_machine.specs.Replies.{Reduction, size_in, vertex_size, IsRightExtension}
use Rattle.core_machine.specs.Solo.{Final, IsFinal, AreFinalVectors}
use Rattle.core_machine.proofs.ClassLaws.{value-kept, none-before, size-none, AreAlike, cocycle-over}
use Rattle.core_machine.proofs.FinalLaws.{AreSameReductions, AreSameFinals, one-vectors}

-- ---- values of sections at a cell

pub size-at : (cs : List Cell) (s : ℕ) → size_in cs s ≡ size_at cs s
unfolding size_at
size-at [] s = refl
size-at (c ∷ cs) s = ap (cond (eqb c.cell s) c.size) (size-at cs s)

-- a cochain of degree 0 has at s as many coordinates as s has
pub value-fits : (K : Ops) (C : CellularComplex) (s : ℕ) (z : List ℕ) → IsCochain K C 0 z
    → IsVector K (vertex_size C s) (value_at (cells_of C 0) z s)
value-fits K C s z h = from_vector K (vertex_size C s) (value_at (cells_of C 0) z s)
    (subst (λ n. Vector K n (value_at (cells_of C 0) z s)) (sym (size-at (cells_of C 0) s))
    (value-vector K (cells_of C 0) z s (to_vector K (coordinates C 0) z h)))

unlisted-size : (cs : List Cell) (s : ℕ) → has s (numbers cs) ≡ false → size_in cs s ≡ 0
unlisted-size [] s h = refl
unlisted-size (c ∷ cs) s h = go (eqb c.cell s) h (unlisted-size cs s)
  where
    go : (e : Bool) → (e || has s (numbers cs)) ≡ false → (has s (numbers cs) ≡ false → size_in cs s ≡ 0)
        → cond e c.size (size_in cs s) ≡ 0
    go true m r = cc
    go false m r = r m

-- without the cells that have no coordinates, each cell has as many
size-kept : (cs : List Cell) (s : ℕ) → HasRisingCells cs → size_in (filter has_coordinates cs) s ≡ size_in cs s
size-kept [] s h = refl
size-kept (c ∷ cs) s h = go (has_coordinates c) (eqb c.cell s) refl refl (size-kept cs s h.1)
  where
    go : (b e : Bool) → has_coordinates c ≡ b → eqb c.cell s ≡ e
        → size_in (filter has_coordinates cs) s ≡ size_in cs s
        → size_in (cond b (c ∷ filter has_coordinates cs) (filter has_coordinates cs)) s
        ≡ cond e c.size (size_in cs s)
    go true true f g r = rw g refl
    go true false f g r = rw g r
    go false true f g r =
        r ∙ unlisted-size cs s
        (none-before cs s (subst (λ k. All (λ (d : Cell). k < d.cell) cs) (eqb-true c.cell s g) h.0))
        ∙ sym (size-none c f)
    go false false f g r = r

-- ---- right for another complex

module _ (K : Ops) (C D : CellularComplex) (like : AreAlike K C D) where
  rising : HasRisingCells (cells_of D 0)
  rising = rising-filter (λ c. c.degree == 0) D.cells like.rising

  pub size-over : (s : ℕ) → vertex_size C s ≡ vertex_size D s
  size-over s = ap (λ cs. size_in cs s) (like.cells 0) ∙ size-kept (cells_of D 0) s rising

  value-over : (z : List ℕ) (s : ℕ) → value_at (cells_of C 0) z s ≡ value_at (cells_of D 0) z s
  value-over z s = ap (λ cs. value_at cs z s) (like.cells 0) ∙ value-kept (cells_of D 0) z s rising

  cocycle-back : (z : List ℕ) → IsCocycle K D 0 z → IsCocycle K C 0 z
  cocycle-back z h = record {
    cochain = subst (λ n. IsVector K n z) (sym (like.same.sizes 0)) h.cochain;
    closed = like.same.maps 0 z ∙ h.closed ∙ ap zeros (sym (like.same.sizes (suc 0)));
  }

  -- what is right for C is right for D
  pub extension-over : (s : ℕ) (v : List ℕ) (reply : Answer) → IsRightExtension K C s v reply
      → IsRightExtension K D s v reply
  extension-over s v replies.BadLength right = λ e. right (e ∙ sym (size-over s))
  extension-over s v replies.BadEntry right = (right.0 ∙ size-over s, right.1)
  extension-over s v (replies.Section t z) right = (
    right.0,
    subst (λ n. IsVector K n v) (size-over s) right.1,
    record {
      cocycle = cocycle-over K C D like 0 z right.2.cocycle;
      value = sym (value-over z s) ∙ right.2.value;
    },
  )
  extension-over s v (replies.NoSection t functional) right = (
    right.0,
    subst (λ n. IsVector K n v) (size-over s) right.1,
    record {
      functional = right.2.functional;
      zero = λ z h. ap (dot K functional) (sym (value-over z s)) ∙ right.2.zero z (cocycle-back z h);
      one = right.2.one;
    },
  )
  extension-over s v reply right = absurd right

-- ---- one right reply

-- no section has a value that an obstruction stands against
obstructed : (K : Ops) (C : CellularComplex) (s : ℕ) (v z functional : List ℕ) → IsSectionWith K C s v z
    → IsObstruction K C s v functional → ⊥
obstructed K C s v z functional h k =
    let same : 1 ≡ 0 = sym k.one ∙ ap (dot K functional) (sym h.value) ∙ k.zero z h.cocycle in
    omega (arith, same)

-- two right replies are the same but for what tells the section, and the obstruction
pub one-extension : (K : Ops) (C : CellularComplex) (s : ℕ) (v : List ℕ) (x y : Answer) → IsRightExtension K C s v x
    → IsRightExtension K C s v y
    → ((t u : ℕ) (z w : List ℕ) → IsVector K (vertex_size C s) v → x ≡ replies.Section t z → y ≡ replies.Section u w
    → z ≡ w)
    → ((t u : ℕ) (p q : List ℕ) → IsVector K (vertex_size C s) v → x ≡ replies.NoSection t p
    → y ≡ replies.NoSection u q → p ≡ q)
    → x ≡ y
one-extension K C s v replies.BadLength replies.BadLength a b told apart = refl
one-extension K C s v replies.BadLength replies.BadEntry a b told apart = absurd (a b.0)
one-extension K C s v replies.BadLength (replies.Section u w) a b told apart = absurd (a b.1.size)
one-extension K C s v replies.BadLength (replies.NoSection u q) a b told apart = absurd (a b.1.size)
one-extension K C s v replies.BadLength y a b told apart = absurd b
one-extension K C s v replies.BadEntry replies.BadLength a b told apart = absurd (b a.0)
one-extension K C s v replies.BadEntry replies.BadEntry a b told apart = refl
one-extension K C s v replies.BadEntry (replies.Section u w) a b told apart = absurd (a.1 b.1.scalars)
one-extension K C s v replies.BadEntry (replies.NoSection u q) a b told apart = absurd (a.1 b.1.scalars)
one-extension K C s v replies.BadEntry y a b told apart = absurd b
one-extension K C s v (replies.Section t z) replies.BadLength a b told apart = absurd (b a.1.size)
one-extension K C s v (replies.Section t z) replies.BadEntry a b told apart = absurd (b.1 a.1.scalars)
one-extension K C s v (replies.Section t z) (replies.Section u w) a b told apart =
    ap₂ replies.Section (a.0 ∙ sym b.0) (told t u z w a.1 refl refl)
one-extension K C s v (replies.Section t z) (replies.NoSection u q) a b told apart =
    absurd (obstructed K C s v z q a.2 b.2)
one-extension K C s v (replies.Section t z) y a b told apart = absurd b
one-extension K C s v (replies.NoSection t p) replies.BadLength a b told apart = absurd (b a.1.size)
one-extension K C s v (replies.NoSection t p) replies.BadEntry a b told apart = absurd (b.1 a.1.scalars)
one-extension K C s v (replies.NoSection t p) (replies.Section u w) a b told apart =
    absurd (obstructed K C s v w p b.2 a.2)
one-extension K C s v (replies.NoSection t p) (replies.NoSection u q) a b told apart =
    ap₂ replies.NoSection (a.0 ∙ sym b.0) (apart t u p q a.1 refl refl)
one-extension K C s v (replies.NoSection t p) y a b told apart = absurd b
one-extension K C s v x y a b told apart = absurd a

-- ---- one leading section, and one leading obstruction

-- the vectors at the end are cochains of the start complex
final-cochains : (K : Ops) (r : Reduction) (f : Final) (vectors : List (List ℕ)) → IsField K → IsFinal K r f
    → AreFinalVectors K f 0 vectors → All (IsCochain K (complex_of r.start) 0) vectors
final-cochains K r f vectors F final h =
    subst (All (IsVector K n)) (sym h)
    (All-map (IsVector K n) (image_of K (f.iota 0)) units
    (λ i d l. from_vector K n (image_of K (f.iota 0) (get_or units i d))
    (image_of-rows K F n (f.iota 0) (get_or units i d) rows)))
  where
    n : ℕ
    n = coordinates (complex_of r.start) 0

    units : List (List ℕ)
    units = identity (coordinates (complex_of f.rest) 0)

    rows : length (f.iota 0) ≡ n
    rows = ap length (final.iota_is 0)
        ∙ length-map (final.iota1 0)
        (λ row. combination K (coordinates (complex_of f.rest) 0) row (final.iota2 0))
        ∙ (final.first.3.iota_is 0).shape.size

module _ (K : Ops) (F : IsField K) (r q : Reduction) (same : AreSameReductions r q) (s : ℕ) (v : List ℕ)
    (value : IsVector K (vertex_size (complex_of r.start) s) v) (f g : Final) (final : IsFinal K r f)
    (finals : AreSameFinals f g) (a b : List (List ℕ)) (h : AreFinalVectors K f 0 a) (k : AreFinalVectors K g 0 b)
  where
    vectors : b ≡ a
    vectors = sym (one-vectors K f g finals 0 a b h k)

    start : complex_of q.start ≡ complex_of r.start
    start = same-complex r.start q.start same.start

    columns : All (IsVector K (length v)) (section_values (complex_of r.start) s a)
    columns = All-map (IsVector K (length v)) (λ z. value_at (cells_of (complex_of r.start) 0) z s) a
        (λ i d l. subst (λ n. IsVector K n (value_at (cells_of (complex_of r.start) 0) (get_or a i d) s))
        (sym value.size) (value-fits K (complex_of r.start) s (get_or a i d) (final-cochains K r f a F final h i d l)))

    pub one-section : (z w : List ℕ) → IsLeadingSection K (complex_of r.start) s v a z
        → IsLeadingSection K (complex_of q.start) s v b w → z ≡ w
    one-section z w x y =
        let own : IsLeadingSection K (complex_of r.start) s v a w =
        subst (λ C. IsLeadingSection K C s v a w) start
        (subst (λ vs. IsLeadingSection K (complex_of q.start) s v vs w) vectors y) in
        x.sum
        ∙ ap (λ c. combination K (coordinates (complex_of r.start) 0) c a)
        (one_leading_combination K F (section_values (complex_of r.start) s a) v x.coefficients own.coefficients
        columns x.combines own.combines)
        ∙ sym own.sum

    pub one-obstruction : (x y : List ℕ) → IsLeadingObstruction K (complex_of r.start) s v a x
        → IsLeadingObstruction K (complex_of q.start) s v b y → x ≡ y
    one-obstruction x y m n =
        one_leading_functional K F (section_values (complex_of r.start) s a) v x y columns value.scalars m
        (subst (λ C. IsLeadingObstruction K C s v a y) start
        (subst (λ vs. IsLeadingObstruction K (complex_of q.start) s v vs y) vectors n))
