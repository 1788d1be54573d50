use Rattle.nfg_words.specs.Passes.{view_of}
use Rattle.nfg_words.specs.TableLaws.{read_within}
use Rattle.nfg_words.proofs.read.read_again.Goals as goal

pub read_bucket-requires-clause-place : goal.read_bucket-requires-clause-place
read_bucket-requires-clause-place g c = read_within c.args.n (view_of c.args.pass.now) c.requires.pass.held.seat.sound c.args.place c.requires.read.0 c.requires.read.1
