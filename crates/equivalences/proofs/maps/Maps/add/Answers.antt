use Rattle.std.proofs.Common.{◌≡◌, ◌≤◌, ℕ, [], true, All, ap, sym, ◌∙◌, refl, subst, arith, length}
use Rattle.std.proofs.lemmas.List.{length-set}
use Rattle.dense_blocks.specs.Field.{Ops}
use Rattle.dense_blocks.specs.FieldLaws.{IsField}
use Rattle.dense_blocks.specs.MatrixFacts.{IsMatrix, matrix_negative}
use Rattle.dense_blocks.specs.Blocks.{matrix_of}
use Rattle.rising_lists.specs.Rising.{IsRising, has}
use Rattle.block_complexes.specs.BlockComplexes.{cells, degree_of}
use Rattle.block_complexes.proofs.WithoutLaws.{without, rising-without}
use Rattle.block_sparse.specs.StoredBlocks.{AreLive}
use Rattle.reduce_step.specs.declared.record.Step.{Step}
use Rattle.equivalence_laws.specs.Transposes.{transpose}
use Rattle.equivalence_laws.specs.CellMaps.{CellMaps}
use Rattle.equivalences.specs.Rows.{cell_rows_of, with_product, with_products}
use Rattle.equivalences.specs.Stored.{maps_of}
use Rattle.equivalences.proofs.BlockLaws.{block-same, matrix-same, members-set}
use Rattle.equivalences.proofs.LiveLaws.{live-without-both, still-live-both}
use Rattle.equivalences.proofs.StoredLaws.{update_takes}
use Rattle.equivalences.proofs.AddLaws as add_laws
use Rattle.equivalences.proofs.maps.Maps.add.Goals as goal

pub product-requires-clause-shapes : goal.product-requires-clause-shapes
product-requires-clause-shapes g c =
    let K : Ops = g.F.Scalars.ops c.args.f.now in
    let F : IsField K = g.met.F.Scalars.is_field c.args.f.now in
    let m : CellMaps = maps_of c.args.self.now in
    let step : Step = c.args.step.now in
    let s = c.requires.next in
    (add_laws.inverse-over K F s.0 s.1 m step s.2 s.3 c.requires.stored.live_cells).columns_are
    ∙ sym (add_laws.rows-over K F s.0 s.1 m step s.2 s.3 c.requires.stored.live_cells c.in_ok-rows.rows c.in_ok-rows.ensures.block).rows_are

pub product-requires-clause-b_scalars : goal.product-requires-clause-b_scalars
product-requires-clause-b_scalars g c =
    let K : Ops = g.F.Scalars.ops c.args.f.now in
    let F : IsField K = g.met.F.Scalars.is_field c.args.f.now in
    let m : CellMaps = maps_of c.args.self.now in
    let step : Step = c.args.step.now in
    let s = c.requires.next in
    (add_laws.rows-over K F s.0 s.1 m step s.2 s.3 c.requires.stored.live_cells c.in_ok-rows.rows c.in_ok-rows.ensures.block).scalars

pub moved_columns-requires-clause-columns : goal.moved_columns-requires-clause-columns
moved_columns-requires-clause-columns g c =
    let K : Ops = g.F.Scalars.ops c.args.f.now in
    let F : IsField K = g.met.F.Scalars.is_field c.args.f.now in
    let m : CellMaps = maps_of c.args.self.now in
    let step : Step = c.args.step.now in
    let s = c.requires.next in
    (add_laws.columns-over K F s.0 s.1 m step s.2 s.3 c.requires.stored.live_cells c.in_ok-columns.columns c.in_ok-columns.ensures.block).rows_are
    ∙ sym (add_laws.inverse-over K F s.0 s.1 m step s.2 s.3 c.requires.stored.live_cells).rows_are

pub moved_columns-requires-clause-scalars : goal.moved_columns-requires-clause-scalars
moved_columns-requires-clause-scalars g c =
    let K : Ops = g.F.Scalars.ops c.args.f.now in
    let F : IsField K = g.met.F.Scalars.is_field c.args.f.now in
    let m : CellMaps = maps_of c.args.self.now in
    let step : Step = c.args.step.now in
    let s = c.requires.next in
    (add_laws.columns-over K F s.0 s.1 m step s.2 s.3 c.requires.stored.live_cells c.in_ok-columns.columns c.in_ok-columns.ensures.block).scalars

pub add_columns-requires-clause-k : goal.add_columns-requires-clause-k
add_columns-requires-clause-k g c =
    let K : Ops = g.F.Scalars.ops c.args.f.now in
    let F : IsField K = g.met.F.Scalars.is_field c.args.f.now in
    let m : CellMaps = maps_of c.args.self.now in
    let step : Step = c.args.step.now in
    let s = c.requires.next in
    let degree : c.from-k.result ≡ degree_of m.live step.x = c.from-k.ensures
    ∙ c.degree_in.ensures ∙ ap (λ live. degree_of live step.x) c.deref.ensures.value in
    omega (arith, degree, add_laws.degree-x K F s.0 s.1 m step s.2 s.3 c.requires.stored.live_cells, add_laws.k-below K F s.0 s.1 m step s.2 s.3 c.requires.stored.live_cells, c.requires.stored.h_count)

pub add_columns-requires-clause-rows : goal.add_columns-requires-clause-rows
add_columns-requires-clause-rows g c =
    let K : Ops = g.F.Scalars.ops c.args.f.now in
    let F : IsField K = g.met.F.Scalars.is_field c.args.f.now in
    let m : CellMaps = maps_of c.args.self.now in
    let step : Step = c.args.step.now in
    let s = c.requires.next in
    let degree : c.from-k.result ≡ degree_of m.live step.x = c.from-k.ensures
    ∙ c.degree_in.ensures ∙ ap (λ live. degree_of live step.x) c.deref.ensures.value in
    matrix-same K (sym (add_laws.columns-over K F s.0 s.1 m step s.2 s.3 c.requires.stored.live_cells c.in_ok-columns.columns c.in_ok-columns.ensures.block).columns_are)
    (sym (c.in_ok-moved.ensures.block.columns_are ∙ (add_laws.rows-over K F s.0 s.1 m step s.2 s.3 c.requires.stored.live_cells c.in_ok-rows.rows c.in_ok-rows.ensures.block).columns_are))
    (ap m.h (sym (degree ∙ add_laws.degree-x K F s.0 s.1 m step s.2 s.3 c.requires.stored.live_cells)))
    (add_laws.h-matrix K F s.0 s.1 m step s.2 s.3 c.requires.stored.live_cells)

pub add_columns-requires-clause-some : goal.add_columns-requires-clause-some
add_columns-requires-clause-some g c =
    let K : Ops = g.F.Scalars.ops c.args.f.now in
    let F : IsField K = g.met.F.Scalars.is_field c.args.f.now in
    let m : CellMaps = maps_of c.args.self.now in
    let step : Step = c.args.step.now in
    let s = c.requires.next in
    subst (λ n. 1 ≤ n) (sym (add_laws.columns-over K F s.0 s.1 m step s.2 s.3 c.requires.stored.live_cells c.in_ok-columns.columns c.in_ok-columns.ensures.block).columns_are)
    (add_laws.some-low K F s.0 s.1 m step s.2 s.3 c.requires.stored.live_cells)

pub add_columns-requires-clause-heights : goal.add_columns-requires-clause-heights
add_columns-requires-clause-heights g c =
    let K : Ops = g.F.Scalars.ops c.args.f.now in
    let F : IsField K = g.met.F.Scalars.is_field c.args.f.now in
    let m : CellMaps = maps_of c.args.self.now in
    let step : Step = c.args.step.now in
    let s = c.requires.next in
    (add_laws.columns-over K F s.0 s.1 m step s.2 s.3 c.requires.stored.live_cells c.in_ok-columns.columns c.in_ok-columns.ensures.block).rows_are
    ∙ sym (c.in_ok-moved.ensures.block.rows_are ∙ (add_laws.inverse-over K F s.0 s.1 m step s.2 s.3 c.requires.stored.live_cells).rows_are)

pub add_columns-requires-clause-column_scalars : goal.add_columns-requires-clause-column_scalars
add_columns-requires-clause-column_scalars g c =
    let K : Ops = g.F.Scalars.ops c.args.f.now in
    let F : IsField K = g.met.F.Scalars.is_field c.args.f.now in
    let m : CellMaps = maps_of c.args.self.now in
    let step : Step = c.args.step.now in
    let s = c.requires.next in
    (add_laws.columns-over K F s.0 s.1 m step s.2 s.3 c.requires.stored.live_cells c.in_ok-columns.columns c.in_ok-columns.ensures.block).scalars

pub take_away-requires-clause-listed : goal.take_away-requires-clause-listed
take_away-requires-clause-listed g c =
    let K : Ops = g.F.Scalars.ops c.args.f.now in
    let F : IsField K = g.met.F.Scalars.is_field c.args.f.now in
    let m : CellMaps = maps_of c.args.self.now in
    let step : Step = c.args.step.now in
    let s = c.requires.next in
    subst (All (λ (l : ℕ × ℕ). (has l.0 c.take.new.self.cells ≡ true) × (1 ≤ l.1)
    × IsMatrix K l.1 c.in_ok-moved.moved.cols (cell_rows_of c.take.new.self l.0))) (sym c.as_slice.ensures)
    (subst (λ n. All (λ (l : ℕ × ℕ). (has l.0 c.take.new.self.cells ≡ true) × (1 ≤ l.1)
    × IsMatrix K l.1 n (cell_rows_of c.take.new.self l.0)) step.below)
    (sym (c.in_ok-moved.ensures.block.columns_are ∙ (add_laws.rows-over K F s.0 s.1 m step s.2 s.3 c.requires.stored.live_cells c.in_ok-rows.rows c.in_ok-rows.ensures.block).columns_are))
    (add_laws.below-all K F s.0 s.1 m step s.2 s.3 c.requires.stored.live_cells c.take.new.self
    (λ q h. ap (has q) c.in_ok-rows.ensures.cells ∙ c.requires.stored.pi_cells q h) c.in_ok-rows.ensures.rows))

pub take_away-requires-clause-coefficient_scalars : goal.take_away-requires-clause-coefficient_scalars
take_away-requires-clause-coefficient_scalars g c =
    let K : Ops = g.F.Scalars.ops c.args.f.now in
    let F : IsField K = g.met.F.Scalars.is_field c.args.f.now in
    let m : CellMaps = maps_of c.args.self.now in
    let step : Step = c.args.step.now in
    let s = c.requires.next in
    add_laws.column-scalars K F s.0 s.1 m step s.2 s.3 c.requires.stored.live_cells

pub take_away-requires-2-clause-listed : goal.take_away-requires-2-clause-listed
take_away-requires-2-clause-listed g c =
    let K : Ops = g.F.Scalars.ops c.args.f.now in
    let F : IsField K = g.met.F.Scalars.is_field c.args.f.now in
    let m : CellMaps = maps_of c.args.self.now in
    let step : Step = c.args.step.now in
    let s = c.requires.next in
    subst (All (λ (l : ℕ × ℕ). (has l.0 c.take-2.new.self.cells ≡ true) × (1 ≤ l.1)
    × IsMatrix K l.1 c.in_ok-through.through.cols (cell_rows_of c.take-2.new.self l.0))) (sym c.as_slice-2.ensures)
    (subst (λ n. All (λ (l : ℕ × ℕ). (has l.0 c.take-2.new.self.cells ≡ true) × (1 ≤ l.1)
    × IsMatrix K l.1 n (cell_rows_of c.take-2.new.self l.0)) step.left)
    (sym (c.in_ok-through.ensures.block.columns_are ∙ (add_laws.columns-over K F s.0 s.1 m step s.2 s.3 c.requires.stored.live_cells c.in_ok-columns.columns c.in_ok-columns.ensures.block).columns_are))
    (add_laws.left-all K F s.0 s.1 m step s.2 s.3 c.requires.stored.live_cells c.take-2.new.self
    (λ q h. ap (has q) c.in_ok-columns.ensures.cells ∙ c.requires.stored.iota_cells q h) c.in_ok-columns.ensures.rows))

pub take_away-requires-2-clause-coefficient_scalars : goal.take_away-requires-2-clause-coefficient_scalars
take_away-requires-2-clause-coefficient_scalars g c =
    let K : Ops = g.F.Scalars.ops c.args.f.now in
    let F : IsField K = g.met.F.Scalars.is_field c.args.f.now in
    let m : CellMaps = maps_of c.args.self.now in
    let step : Step = c.args.step.now in
    let s = c.requires.next in
    add_laws.row-scalars K F s.0 s.1 m step s.2 s.3 c.requires.stored.live_cells c.in_ok-row.row c.in_ok-row.ensures.block.matrix_is

pub remove-requires-2 : goal.remove-requires-2
remove-requires-2 g c =
    subst (λ live. IsRising (cells live)) (sym c.remove.ensures)
    (rising-without c.args.step.now.x c.args.self.now.live.items c.requires.stored.live_cells.rising)

pub returns-clause-stored : goal.returns-clause-stored
returns-clause-stored g c =
    let old = c.args.self.now in
    let step : Step = c.args.step.now in
    let live : c.remove-2.new.live.items ≡ without step.y (without step.x old.live.items) = c.remove-2.ensures
    ∙ ap (without step.y) c.remove.ensures in
    record {
      live_cells = subst AreLive (sym live) (live-without-both step.x step.y old.live.items c.requires.stored.live_cells);
      pi_cells = λ q h.
          ap (has q) (c.drop_rows.ensures.cells ∙ c.take_away.ensures.cells ∙ c.in_ok-rows.ensures.cells)
          ∙ c.requires.stored.pi_cells q (still-live-both step.x step.y old.live.items q
          (subst (λ live. has q (cells live) ≡ true) live h));
      iota_cells = λ q h.
          ap (has q) (c.drop_rows-2.ensures.cells ∙ c.take_away-2.ensures.cells ∙ c.in_ok-columns.ensures.cells)
          ∙ c.requires.stored.iota_cells q (still-live-both step.x step.y old.live.items q
          (subst (λ live. has q (cells live) ≡ true) live h));
      h_count = ap length c.in_ok-add_columns.ensures ∙ length-set old.h.items _ _ ∙ c.requires.stored.h_count;
    }

pub returns-clause-step : goal.returns-clause-step
returns-clause-step g c = λ v rs w next.
    let K : Ops = g.F.Scalars.ops c.args.f.now in
    let F : IsField K = g.met.F.Scalars.is_field c.args.f.now in
    let m : CellMaps = maps_of c.args.self.now in
    let step : Step = c.args.step.now in
    let fits = c.requires.stored.live_cells in
    let k : ℕ = add_laws.k K F v rs m step w next fits in
    let degree : c.from-k.result ≡ degree_of m.live step.x = c.from-k.ensures
    ∙ c.degree_in.ensures ∙ ap (λ live. degree_of live step.x) c.deref.ensures.value in
    let h = members-set c.args.self.now.h.items c.add_columns.new.h.items [] _ c.from-k.result k
    c.in_ok-add_columns.ensures (degree ∙ add_laws.degree-x K F v rs m step w next fits)
    (omega (arith, add_laws.k-below K F v rs m step w next fits, c.requires.stored.h_count)) in
    let m' : CellMaps = maps_of (record {
      live = c.remove-2.new.live;
      pi = c.drop_rows.new.self;
      iota = c.drop_rows-2.new.self;
      h = c.add_columns.new.h;
    }) in
    update_takes K F v rs m m' step w next
    (add_laws.calls-update K F v rs m step w next fits c.in_ok-rows.rows c.in_ok-columns.columns c.in_ok-moved.moved
    c.in_ok-through.through c.in_ok-row.row c.in_ok-rows.ensures.block c.in_ok-columns.ensures.block
    c.in_ok-moved.ensures.block
    (block-same c.in_ok-through.through refl refl refl c.in_ok-through.ensures.block) c.in_ok-row.ensures.block.matrix_is
    m' (c.remove-2.ensures ∙ ap (without step.y) c.remove.ensures)
    (λ q nx ny. c.drop_rows.ensures.rows q nx ∙ c.in_ok-take_away.ensures.rows q
    ∙ ap (λ ls. with_products K c.in_ok-moved.moved.cols ls (matrix_of step.column)
    (matrix_negative K (matrix_of c.in_ok-moved.moved)) q (cell_rows_of c.take.new.self q)) c.as_slice.ensures
    ∙ ap (with_products K c.in_ok-moved.moved.cols step.below (matrix_of step.column)
    (matrix_negative K (matrix_of c.in_ok-moved.moved)) q) (c.in_ok-rows.ensures.rows q ny))
    (λ q nx ny. c.drop_rows-2.ensures.rows q ny ∙ c.in_ok-take_away-2.ensures.rows q
    ∙ ap (λ ls. with_products K c.in_ok-through.through.cols ls (matrix_of c.in_ok-row.row)
    (matrix_negative K (matrix_of c.in_ok-through.through)) q (cell_rows_of c.take-2.new.self q)) c.as_slice-2.ensures
    ∙ ap (with_products K c.in_ok-through.through.cols step.left (matrix_of c.in_ok-row.row)
    (matrix_negative K (matrix_of c.in_ok-through.through)) q) (c.in_ok-columns.ensures.rows q nx))
    h.0
    (h.1 ∙ ap (λ j. with_product K c.in_ok-moved.moved.cols (m.h j)
    (transpose c.in_ok-columns.columns.cols (matrix_of c.in_ok-columns.columns)) (matrix_of c.in_ok-moved.moved))
    (degree ∙ add_laws.degree-x K F v rs m step w next fits)))
