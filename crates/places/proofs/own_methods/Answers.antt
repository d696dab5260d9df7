use Rattle.places.proofs.Laws.{owns_of}
use Rattle.places.proofs.own_methods.Goals as goal

pub returns : goal.returns
returns c =
    let wide = c.wide-own.ensures.0 in
    (wide, λ strings blob _. owns_of wide (c.method_range-range.ensures strings blob))
