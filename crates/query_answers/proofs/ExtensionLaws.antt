-- Which replies answer a question on global sections, out of a slot and what is kept of it.
use Rattle.std.proofs.Common.{◌≡◌, ℕ, List, Vec, Global, true, length, refl, sym, ◌∙◌, subst}
use Rattle.std.specs.Prelude.{◌≢◌, Some, slice_get}
use Rattle.dense_blocks.specs.Field.{Ops}
use Rattle.dense_blocks.specs.Vectors.{AllScalars, IsVector}
use Rattle.rising_lists.specs.Rising.{has}
use Rattle.cochain_vec.specs.declared.cochain.Cochain.{Cochain}
use Rattle.cochain_vec.specs.Complexes.{CellularComplex, cells_of}
use Rattle.cochain_vec.specs.Cohomology.{IsBasis}
use Rattle.block_complexes.specs.BlockComplexes.{BlockComplex, cells, degree_of, size_of, HaveSameMatrices}
use Rattle.block_complexes.specs.Cochains.{complex_of}
use Rattle.block_complexes.proofs.SameLaws.{same-complex}
use Rattle.block_sparse.specs.StoredBlocks.{complex_in}
use Rattle.equivalences.specs.CochainLists.{values_of}
use Rattle.sections.specs.Extensions.{IsSectionWith, IsObstruction, IsLeadingSection, IsLeadingObstruction}
use Rattle.sections.proofs.PlaceLaws.{vertex-size}
use Rattle.pair_commit.specs.Slots.{SlotValue}
use Rattle.sheaf_words.specs.declared.query.Query.TheVariants as queries
use Rattle.sheaf_words.specs.declared.reply.Reply.TheVariants as replies
use Rattle.core_machine.specs.Replies.{Reduction, vertex_size}
use Rattle.core_machine.proofs.ExtensionLaws.{size-at}
use Rattle.query_answers.specs.Answers.{IsAnswerIn}
use Rattle.query_answers.specs.Endings.{IsCohomologyOf, final_of}
use Rattle.query_answers.specs.Vectors.{AreVectorsAt}
use Rattle.query_answers.specs.declared.cohomology.Cohomology.{Cohomology}

-- a vertex has as many coordinates among the cells of degree 0 as it has
pub size-at-vertex : (w : BlockComplex) (s : ℕ) → (has s (cells w.live) ≡ true → degree_of w.live s ≡ 0)
    → vertex_size (complex_of w) s ≡ size_of w.live s
size-at-vertex w s vertex = size-at (cells_of (complex_of w) 0) s ∙ vertex-size w.live s vertex

module _ {F : Type 0} (K : Ops) (slot : SlotValue F) where
  abbrev base : CellularComplex
  base = complex_of (complex_in slot.base)

  -- what holds of the base holds of the start
  at-start : (P : CellularComplex → Type 0) (r : Reduction) → HaveSameMatrices (complex_in slot.base) r.start → P base
      → P (complex_of r.start)
  at-start P r start h = subst P (sym (same-complex (complex_in slot.base) r.start start)) h

  -- numbers that are too many or too few, and such that are not all scalars
  pub length-answer : (s : ℕ) (v : List ℕ)
      → (has s (cells slot.base.live) ≡ true → degree_of slot.base.live s ≡ 0)
      → length v ≢ size_of slot.base.live s → (degrees : ℕ)
      → IsAnswerIn K degrees slot (queries.Extend s v) replies.BadLength
  length-answer s v vertex other degrees r is start = (
    at-start (λ C. length v ≢ vertex_size C s) r start
        (λ e. other (e ∙ size-at-vertex (complex_in slot.base) s vertex)),
    tt,
  )

  pub entry-answer : (s : ℕ) (v : List ℕ)
      → (has s (cells slot.base.live) ≡ true → degree_of slot.base.live s ≡ 0)
      → length v ≡ size_of slot.base.live s → (AllScalars K v → ⊥) → (degrees : ℕ)
      → IsAnswerIn K degrees slot (queries.Extend s v) replies.BadEntry
  entry-answer s v vertex size foreign degrees r is start = (
    (
      at-start (λ C. length v ≡ vertex_size C s) r start
          (size ∙ sym (size-at-vertex (complex_in slot.base) s vertex)),
      foreign,
    ),
    tt,
  )

  module _ (c : Cohomology) (kept : IsCohomologyOf K slot c) where
    pub sections-answer : (vectors : List (List ℕ)) → AreVectorsAt c.bases.items 0 vectors → (degrees : ℕ)
        → IsAnswerIn K degrees slot queries.Sections (replies.Sections vectors)
    sections-answer vectors at degrees r is start = (
      at-start (λ C. IsBasis K C 0 vectors) r start (subst (IsBasis K base 0) (sym at.2) (kept.bases 0 at.0 at.1)),
      (
        final_of kept.rest c.maps,
        kept.final degrees r is start,
        at.2 ∙ (kept.images 0 at.0 at.1).values_are,
      ),
    )

    module _ (zs : Vec Cochain Global) (at : slice_get c.bases.items 0 ≡ Some zs) (s : ℕ) (v : List ℕ)
        (vertex : has s (cells slot.base.live) ≡ true → degree_of slot.base.live s ≡ 0)
        (value : IsVector K (size_of slot.base.live s) v) where
      fits : IsVector K (vertex_size base s) v
      fits = subst (λ n. IsVector K n v) (sym (size-at-vertex (complex_in slot.base) s vertex)) value

      pub section-answer : (z : List ℕ) → IsSectionWith K base s v z
          → IsLeadingSection K base s v (values_of zs.items) z → (degrees : ℕ)
          → IsAnswerIn K degrees slot (queries.Extend s v) (replies.Section s z)
      section-answer z has leads degrees r is start = (
        (
          refl,
          at-start (λ C. IsVector K (vertex_size C s) v) r start fits,
          at-start (λ C. IsSectionWith K C s v z) r start has,
        ),
        (
          final_of kept.rest c.maps,
          values_of zs.items,
          kept.final degrees r is start,
          (kept.images 0 zs at).values_are,
          at-start (λ C. IsLeadingSection K C s v (values_of zs.items) z) r start leads,
        ),
      )

      pub obstruction-answer : (p : List ℕ) → IsObstruction K base s v p
          → IsLeadingObstruction K base s v (values_of zs.items) p → (degrees : ℕ)
          → IsAnswerIn K degrees slot (queries.Extend s v) (replies.NoSection s p)
      obstruction-answer p has leads degrees r is start = (
        (
          refl,
          at-start (λ C. IsVector K (vertex_size C s) v) r start fits,
          at-start (λ C. IsObstruction K C s v p) r start has,
        ),
        (
          final_of kept.rest c.maps,
          values_of zs.items,
          kept.final degrees r is start,
          (kept.images 0 zs at).values_are,
          at-start (λ C. IsLeadingObstruction K C s v (values_of zs.items) p) r start leads,
        ),
      )
