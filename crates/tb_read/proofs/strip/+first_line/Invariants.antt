use Rattle.tb_read.proofs.strip.+first_line.Given as goal

abbrev pub decreases-first_line : goal.decreases-first_line
decreases-first_line l = l.most
