-- What is counted of the room that replies may need.
use Rattle.std.specs.Prelude.{◌≡◌, ℕ, min}
use Rattle.sheaf_text.specs.declared.room.Needs.{Needs}

-- n large replies, and k coordinates
pub record AreNeeds (n k : ℕ) (needs : Needs) : Type 0 where
  pub replies_are : needs.replies ≡ min n 4294967295
  pub coordinates_are : needs.coordinates ≡ min k 4096
