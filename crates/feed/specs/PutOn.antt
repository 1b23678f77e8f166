-- What putting a relay on a feed makes.
use Rattle.std.specs.Prelude.{◌≡◌}
use Rattle.feed.specs.declared.traits.Feed.{Ghosts}
use Rattle.feed.specs.Pile.{Relay, through, on}

-- The feed s is the relay r put on the feed f, where above and below are what the two say of themselves as feeds:
-- its pile is that of f with r on top, it means what r makes of what f means, and it is unread if f is.
pub record PutOn {S F : Type 0} (above : Ghosts S) (below : Ghosts F) (r : Relay) (f : F) (s : S) : Type 0 where
  pub pile : above.pile s ≡ on r (below.pile f)
  pub meaning : above.meaning s ≡ through r (below.meaning f)
  pub unread : below.unread f → above.unread s
