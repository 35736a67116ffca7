use Rattle.rising_lists.proofs.Keyed.{not_found}
use Rattle.rising_lists.proofs.places.place.Goals as goal

pub returns-in-Err : goal.returns-in-Err
returns-in-Err c = not_found _ _ _ c.requires c.in-Err.ensures.position
