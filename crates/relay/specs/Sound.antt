-- What the laws of the relays as feeds rest on.
use Rattle.feed.specs.Alike.{RelaysStayWellMade}
use Rattle.feed.proofs.Piles.{relays-stay-well-made}

pub through_sound : RelaysStayWellMade
through_sound = relays-stay-well-made
