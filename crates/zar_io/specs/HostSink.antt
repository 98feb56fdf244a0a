-- What a sink over a writer shows: the writer.
use Rattle.std.specs.declared.io.Write.{Ghosts}
use Rattle.zar_io.specs.declared.host.HostSink.{HostSink}

abbrev pub writer_of : {W : Type 0} {ghosts : Ghosts W} → HostSink W ghosts → W
writer_of sink = sink.writer
