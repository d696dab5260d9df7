use Rattle.numbers.proofs.Parts.{cut-is}
use Rattle.method_signatures.proofs.Laws.{no-blob, no_start, no-type, signature-there, inside}
use mathlib.Core.Path.{sym, ◌∙◌}
use Rattle.method_signatures.proofs.Laws.{value-there, value-gone}
use Rattle.method_signatures.proofs.read_by.Goals as goal

pub returns-in_err-start : goal.returns-in_err-start
returns-in_err-start c =
    rw c.from_residual.ensures (value-gone c.get_blob.result (sym c.ok.ensures.value ∙ c.in_err-start.was)
    (λ why e. no-blob c.requires.laid _ _ _ _ c.requires.m_bound c.read_column-index.ensures c.get_blob.ensures _ _ e))

pub returns-in_err-count : goal.returns-in_err-count
returns-in_err-count c =
    let blob = value-there _ (sym c.ok.ensures.value ∙ c.in_ok-start.was) in
    let there = inside c.requires.laid c.args.strings.now c.args.blob.now c.args.m c.args.class.0 c.requires.m_bound c.read_column-index.ensures c.get_blob.ensures blob in
    rw c.from_residual-in_err-count.ensures (value-gone c.read_method_start.result (sym c.ok-2.ensures.value ∙ c.in_err-count.was)
    (λ next e. no_start c.requires.laid _ _ _ _ c.requires.m_bound c.read_column-index.ensures c.get_blob.ensures blob
    (cut-is _ _ _ _ there c.cut-sig.ensures).bytes _ c.read_method_start.ensures _ _ e))

pub returns-in_err-end : goal.returns-in_err-end
returns-in_err-end c =
    let blob = value-there _ (sym c.ok.ensures.value ∙ c.in_ok-start.was) in
    let there = inside c.requires.laid c.args.strings.now c.args.blob.now c.args.m c.args.class.0 c.requires.m_bound c.read_column-index.ensures c.get_blob.ensures blob in
    rw c.from_residual-in_err-end.ensures (value-gone c.parse_sig_type.result (sym c.ok-3.ensures.value ∙ c.in_err-end.was)
    (λ next e. no-type c.requires.laid _ _ _ _ c.requires.m_bound c.read_column-index.ensures c.get_blob.ensures blob
    (cut-is _ _ _ _ there c.cut-sig.ensures).bytes _ c.read_method_start.ensures (value-there _ (sym c.ok-2.ensures.value ∙ c.in_ok-count.was))
    c.owner_of-owner.ensures c.parse_sig_type.ensures e))

pub returns : goal.returns
returns c =
    let blob = value-there _ (sym c.ok.ensures.value ∙ c.in_ok-start.was) in
    let there = inside c.requires.laid c.args.strings.now c.args.blob.now c.args.m c.args.class.0 c.requires.m_bound c.read_column-index.ensures c.get_blob.ensures blob in
    signature-there c.requires.laid _ _ _ _ c.requires.m_bound c.read_column-index.ensures c.get_blob.ensures blob (cut-is _ _ _ _ there c.cut-sig.ensures).bytes _
    c.read_method_start.ensures (value-there _ (sym c.ok-2.ensures.value ∙ c.in_ok-count.was)) c.owner_of-owner.ensures c.parse_sig_type.ensures
    (value-there _ (sym c.ok-3.ensures.value ∙ c.in_ok-end.was))
