-- The lines of a reduced complex, and of the maps between the whole complex and it.
use Rattle.std.specs.Prelude.{ℕ, List, [], ◌∷◌, ◌++◌, map, length, codes}
use Rattle.std.specs.Fmt.{decimal}
use Rattle.sheaf_words.specs.declared.reply.Reduced.{Reduced}
use Rattle.sheaf_words.specs.declared.reply.Maps.{Maps}
use Rattle.reply_text.specs.declared.joined.Direction.TheVariants.{Up, Level, Down}
use Rattle.reply_text.specs.JoinedMatrices.{JoinedMatrices, block_lines}

-- ---- the joined matrices of a reply

-- the coboundary of the reduced complex, from each degree to the next
abbrev pub reduced_coboundary : Reduced → JoinedMatrices
reduced_coboundary r = record { matrices = r.d; from = r.live; to = r.live; direction = Up }

-- from the whole complex to the reduced one
abbrev pub projection : Reduced → Maps → JoinedMatrices
projection r m = record { matrices = m.pi; from = m.base; to = r.live; direction = Level }

-- from the reduced complex to the whole one
abbrev pub inclusion : Reduced → Maps → JoinedMatrices
inclusion r m = record { matrices = m.iota; from = r.live; to = m.base; direction = Level }

-- in the whole complex, from each degree to the one below
abbrev pub homotopy : Maps → JoinedMatrices
homotopy m = record { matrices = m.h; from = m.base; to = m.base; direction = Down }

-- ---- lines

-- the pairs that were removed, in order
abbrev pub pair_lines : List (ℕ × ℕ) → List (List (List ℕ))
pair_lines pairs = map (λ p. codes "pair" ∷ decimal p.0 ∷ decimal p.1 ∷ []) pairs

-- the cells that are left, each with its size
abbrev pub live_lines : List (ℕ × ℕ × ℕ) → List (List (List ℕ))
live_lines live = map (λ c. codes "live" ∷ decimal c.0 ∷ decimal c.2 ∷ []) live

-- the blocks of the coboundary and of the maps
abbrev pub coboundary_lines : Reduced → List (List (List ℕ))
coboundary_lines r = block_lines (codes "block") (reduced_coboundary r)

abbrev pub projection_lines : Reduced → Maps → List (List (List ℕ))
projection_lines r m = block_lines (codes "pi") (projection r m)

abbrev pub inclusion_lines : Reduced → Maps → List (List (List ℕ))
inclusion_lines r m = block_lines (codes "iota") (inclusion r m)

abbrev pub homotopy_lines : Maps → List (List (List ℕ))
homotopy_lines m = block_lines (codes "h") (homotopy m)

-- ---- what is written of a reply

-- how many lines of each kind follow
abbrev pub reduced_counts : Reduced → List ℕ
reduced_counts r = length r.pairs ∷ length r.live ∷ length (coboundary_lines r) ∷ []

abbrev pub map_counts : Reduced → Maps → List ℕ
map_counts r m = length (projection_lines r m) ∷ length (inclusion_lines r m) ∷ length (homotopy_lines m) ∷ []

-- the lines that follow
abbrev pub reduced_lines : Reduced → List (List (List ℕ))
reduced_lines r = pair_lines r.pairs ++ live_lines r.live ++ coboundary_lines r

abbrev pub map_lines : Reduced → Maps → List (List (List ℕ))
map_lines r m = projection_lines r m ++ inclusion_lines r m ++ homotopy_lines m
