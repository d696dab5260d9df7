use mathlib.Core.Logic.{⊎_elim}
use Rattle.listing_steps.proofs.Over.{not-over, over-is}
use Rattle.listing_steps.proofs.is_over.Goals as goal

pub returns-in-Base : goal.returns-in-Base
returns-in-Base c = over-is _ _ c.in-Base.is c.bases_over.ensures

pub returns-in-Returns : goal.returns-in-Returns
returns-in-Returns c =
    let is = c.method_over.ensures in
    ⊎_elim (λ e. over-is _ _ e is) (λ d. ⊎_elim (λ e. over-is _ _ e is) (λ e. over-is _ _ e is) d) c.in-Returns.is

pub returns-in_default : goal.returns-in_default
returns-in_default c = let no = c.in_default in not-over _ _ no.not-Base no.not-Returns no.not-ParamType no.not-ParamName
