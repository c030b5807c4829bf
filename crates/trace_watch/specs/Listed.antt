-- What an observer has listed.
use Rattle.std.specs.Prelude.{◌≡◌, Bool, List, [], ◌∷◌, take}
use Rattle.vap_code.specs.Sights.{Sight}
use Rattle.trace_watch.specs.declared.listing.Listing.{Listing}
use Rattle.trace_watch.specs.Events.{Behind, at_first, behind, events_of}

-- what is known of the last of these sights
abbrev pub last_behind : Behind → List Sight → Behind
last_behind before [] = before
last_behind before (s ∷ sights) = last_behind (behind s) sights

-- the first 1,000,000 events of these sights were listed
pub record HasListed (listing : Listing) (sights : List Sight) : Type 0 where
  pub events : listing.events ≡ take 1000000 (events_of sights)
  pub taking : listing.taking ≡ (last_behind at_first sights).taking
  pub back : listing.back ≡ (last_behind at_first sights).back
