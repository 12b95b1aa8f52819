use Rattle.tb_laws.proofs.histories.next_is_legal.Goals as goal

pub returns : goal.returns
returns c = λ P H v l. (λ n. ((l.0, n.may), (l.1, n.follows)), λ m. record { may = m.0.1; follows = m.1.1 })
