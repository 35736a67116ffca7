use Rattle.std.proofs.Common.{subst, sym}
use Rattle.block_sparse.specs.StoredBlocks.{AreLive, complex_in}
use Rattle.cocycle_bases.proofs.ClassLaws.{IsImage, image-size, open-or-closed}
use Rattle.cocycle_bases.proofs.class.open_cell.Goals as goal

pub first_open-found-requires : goal.first_open-found-requires
first_open-found-requires g c =
    let K = g.F.Scalars.ops c.args.f.now in
    let v = complex_in c.args.base.now in
    let made : IsImage K v c.args.z.now.degree c.args.z.now.values.items c.deref.result.now c.in_ok-image.image.items
    c.deref-2.result.now = record {
      is = c.in_ok-image.ensures.coboundary;
      of = c.deref.ensures.value;
      read = c.deref-2.ensures.value;
      cochain = c.in_ok-image.ensures.cochain;
    } in
    record {
      live_cells = subst AreLive (sym c.live-live.ensures.live) c.live-live.ensures.live_cells;
      size = image-size K v c.live-live.result.now c.live-live.ensures.live c.args.z.now.degree
          c.args.z.now.values.items c.deref.result.now c.in_ok-image.image.items c.deref-2.result.now made;
    }

pub returns : goal.returns
returns g c =
    let K = g.F.Scalars.ops c.args.f.now in
    let v = complex_in c.args.base.now in
    let made : IsImage K v c.args.z.now.degree c.args.z.now.values.items c.deref.result.now c.in_ok-image.image.items
    c.deref-2.result.now = record {
      is = c.in_ok-image.ensures.coboundary;
      of = c.deref.ensures.value;
      read = c.deref-2.ensures.value;
      cochain = c.in_ok-image.ensures.cochain;
    } in
    open-or-closed K v c.live-live.result.now c.live-live.ensures.live c.args.z.now.degree c.args.z.now.values.items
    c.deref.result.now c.in_ok-image.image.items c.deref-2.result.now made c.requires.cochain c.first_open-found.result
    c.first_open-found.ensures
