-- `rooms::read_exchanges` reads float by float. Assumes nothing.
use Rattle.sheets.proofs.rooms.Laws.{ExchangesUpTo}
use Rattle.sheets.proofs.rooms.read_exchanges.Given as goal

abbrev pub invariant-loop-j : goal.invariant-loop-j
invariant-loop-j l = ExchangesUpTo l.s l.at l.m l.j l.p l.exchange
