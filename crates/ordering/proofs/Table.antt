-- Each case is what the steps compute.
use Rattle.std.proofs.Common.{refl}
use Rattle.ordering.specs.Listing.{Cases}
use Rattle.ordering.specs.Searches.{names}

pub cases_hold : Cases
unfolding names
cases_hold =
    record {
      worked = refl;
      first_cells = refl;
      second_cells = refl;
      sixteen_members = refl;
      no_members = refl;
      seventeen_members = refl;
      last_number = refl;
      beyond_last_number = refl;
      table_full = refl;
      table_freed = refl;
      memory_full = refl;
      shifts_and_set = refl;
      settled_when_full = refl;
      settled_with_room = refl;
      earliest_by_timestamp = refl;
      earliest_by_number = refl;
      heard_blocks = refl;
      gathered_blocks = refl;
      departed_remembered = refl;
      settled_when_full_forgets = refl;
    }
