use Rattle.sota_block.proofs.fold.+fold_products.Given as goal

abbrev pub decreases-fold_products : goal.decreases-fold_products
decreases-fold_products l = l.len
