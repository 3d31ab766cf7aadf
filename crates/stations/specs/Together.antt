-- The stations of a line as one list.
use Rattle.std.specs.Prelude.{◌≡◌, ℕ, List, [], Some, None, Option, map}
use Rattle.std.specs.List.{slice_get, range_with_len}
use Rattle.line.specs.declared.state.Station.{Station}
use Rattle.ordering.specs.Limits.{member_limit}

-- One station for each member that a line can have, in the order of the members.
abbrev pub OneEach : {M : Type 0} → List (Station M) → Type 0
OneEach stations = map (λ s. s.member) stations ≡ range_with_len 0 member_limit

-- The cells of a station, if there is one.
abbrev pub cells_in : {M : Type 0} → (M → List ℕ) → Option (Station M) → List ℕ
cells_in cells (Some s) = cells s.machine
cells_in cells None = []

-- The cells of a member's station, where the machines have such cells.
abbrev pub held_by : {M : Type 0} → (M → List ℕ) → List (Station M) → ℕ → List ℕ
held_by cells stations m = cells_in cells (slice_get stations m)
