use Rattle.tb_read.proofs.strip.+last_line.Given as goal

abbrev pub decreases-last_line : goal.decreases-last_line
decreases-last_line l = l.most
