-- The records of the cells of all stations, in rising order of member and cell index.
use Rattle.std.specs.Prelude.{ℕ, zero, suc, List, [], ◌∷◌, ◌++◌}
use Rattle.trace.specs.Records.{cell_record}

-- The cells of a member's station from the index i on.
abbrev pub station_records : ℕ → ℕ → List ℕ → List (List ℕ)
station_records m i [] = []
station_records m i (x ∷ xs) = cell_record m i x ∷ station_records m (suc i) xs

-- The cells of k stations, from the member m on.
abbrev pub cell_records : (ℕ → List ℕ) → ℕ → ℕ → List (List ℕ)
cell_records cells m zero = []
cell_records cells m (suc k) = station_records m 0 (cells m) ++ cell_records cells (suc m) k
