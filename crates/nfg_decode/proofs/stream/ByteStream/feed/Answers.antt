use Rattle.nfg_decode.proofs.stream.ByteStream.feed.Goals as goal

pub returns-clause-read : goal.returns-clause-read
returns-clause-read c e bytes h = (c.take_piece.ensures.feeds e bytes h).read

pub returns-clause-decoded : goal.returns-clause-decoded
returns-clause-decoded c e bytes h = (c.take_piece.ensures.feeds e bytes h).decoded

pub returns-clause-malformed : goal.returns-clause-malformed
returns-clause-malformed c e bytes at h = (c.take_piece.ensures.feeds e bytes h).malformed at

pub returns-clause-found : goal.returns-clause-found
returns-clause-found c e bytes at h = (c.take_piece.ensures.feeds e bytes h).found at

pub returns-clause-stays : goal.returns-clause-stays
returns-clause-stays c e bytes at h = (c.take_piece.ensures.feeds e bytes h).stays at
