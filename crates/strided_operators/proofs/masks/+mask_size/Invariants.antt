use Rattle.strided_operators.proofs.masks.+mask_size.Given as goal

abbrev pub decreases-mask_size : goal.decreases-mask_size
decreases-mask_size l = l.size
