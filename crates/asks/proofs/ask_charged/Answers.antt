use Rattle.asks.proofs.Laws.{asked-number, asked-name}
use Rattle.asks.proofs.ask_charged.Goals as goal

pub returns-in-Number : goal.returns-in-Number
returns-in-Number c = asked-number _ _ _ _ c.in-Number.is
    c.ask_number.ensures c.clear_from.ensures

pub returns-in-Name : goal.returns-in-Name
returns-in-Name c = asked-name _ _ _ _ c.in-Name.is c.ask_name.ensures
