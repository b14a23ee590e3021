use Rattle.std.proofs.Common.{[]}
use Rattle.magic_pool.proofs.Readiness.{given_once}
use Rattle.magic_pool.proofs.laws.law_once.Goals as goal

pub returns : goal.returns
returns c = λ fails events. given_once fails [] [] events
