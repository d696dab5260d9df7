use Rattle.layouts.specs.Columns.{index_sizes}
use Rattle.layouts.proofs.Sizes.{sized}
use Rattle.layouts.proofs.custom_attribute_type_size.Goals as goal

pub returns : goal.returns
unfolding index_sizes
returns c = λ decl heap. sized _ _ _ _ c.coded_index_size.ensures tt tt
