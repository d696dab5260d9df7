use mathlib.Core.Path.{sym}
use Rattle.references.proofs.NameAnswers.{module-refs-are, module-refs-gone}
use Rattle.references.proofs.names.count_module_refs.Goals as goal

pub returns-then-n-eq0 : goal.returns-then-n-eq0
returns-then-n-eq0 c t strings blob laid = sym (module-refs-gone laid strings blob c.count_entire-n.ensures c.if-n-eq0.true)

pub returns : goal.returns
returns c t strings blob laid = sym (module-refs-are laid strings blob c.count_entire-n.ensures c.if-n-eq0.false)
