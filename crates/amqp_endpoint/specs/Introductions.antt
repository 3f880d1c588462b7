-- What a peer says of itself in its open (AMQP 1.0, part 2, section 2.7.1), as far as it is kept.
use Rattle.std.specs.Prelude.{ℕ, List, Option, option_map}
use Rattle.amqp_perform.specs.declared.performative.Open.{Open}
use Rattle.amqp_endpoint.specs.declared.introduction.Introduction.{Introduction}
use Rattle.amqp_endpoint.specs.FirstTexts.{first_text, string_in, uint_in}

-- What is kept of these fields: the first bytes of the container-id and of the hostname, and the idle-time-out in milliseconds.
abbrev pub introduction : List ℕ → List ℕ → List ℕ → Introduction
introduction container_id hostname idle_time_out =
    record { container_id = first_text container_id; hostname = option_map first_text (string_in hostname); idle_time_out = uint_in idle_time_out }

abbrev pub introduction_by : Open → Introduction
introduction_by p = introduction p.container_id.now p.hostname.now p.idle_time_out.now
