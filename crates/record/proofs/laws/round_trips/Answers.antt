use Rattle.record.proofs.Encoded.{encoded-is-decoded}
use Rattle.record.proofs.Decoded.{decoded-is-encoded, decoded-is-well-made}
use Rattle.record.proofs.laws.round_trips.Goals as goal

pub returns : goal.returns
returns c = record { encoded_is_decoded = encoded-is-decoded; decoded_is_encoded = decoded-is-encoded; decoded_is_well_made = decoded-is-well-made }
