use Rattle.nfg_decode.specs.Stream.{HasRead}
use Rattle.nfg_decode.proofs.stream.ByteStream.new.Goals as goal

pub returns-clause-read : goal.returns-clause-read
unfolding HasRead
returns-clause-read c = c.first_state-state.ensures.open
