use Rattle.post_box.proofs.queue.+learn_agents.Given as goal

abbrev pub decreases-learn_agents : goal.decreases-learn_agents
decreases-learn_agents l = l.agents
