use Rattle.block_complexes.specs.Cochains.{complex_of}
use Rattle.block_sparse.specs.StoredBlocks.{complex_in}
use Rattle.equivalences.proofs.ImageLaws.{columns-are-images, images-basis}
use Rattle.equivalences.proofs.images.basis.Goals as goal

pub returns-clause-images : goal.returns-clause-images
returns-clause-images g c =
    columns-are-images (g.F.Scalars.ops c.args.f.now) (g.met.F.Scalars.is_field c.args.f.now)
    (complex_of (complex_in c.args.base.now)) (complex_of (complex_in c.args.rest.now)) c.args.eq.now c.args.degree
    c.member-block.result.now c.in_ok-basis.basis.items c.requires.equivalence.maps c.member-block.ensures
    c.in_ok-basis.ensures

pub returns-clause-basis : goal.returns-clause-basis
returns-clause-basis g c =
    images-basis (g.F.Scalars.ops c.args.f.now) (g.met.F.Scalars.is_field c.args.f.now) (complex_in c.args.base.now)
    (complex_in c.args.rest.now) c.args.eq.now c.args.degree c.in_ok-basis.basis.items c.requires.base
    c.requires.rest c.requires.no_block c.requires.equivalence (returns-clause-images g c)
